-- Each case has its numbers and is given back by them; numbers that are some case's are those of the case that they give.
-- Assumes nothing.
use mathlib.Core.Path.{◌≡◌, refl}
use mathlib.Core.Bool.{Bool, true, false}
use Prim.Native.Nat.{ℕ, zero, suc}
use native.Mathlib.Omega.{arith}
use borrow.Author.Tests.{leb-true}
use lib.Dec.{eqb}
use Rattle.coding_flag.specs.Numbers.{bit_of, is_bit}

pub bit_back : (b : Bool) → eqb (bit_of b) 1 ≡ b
bit_back true = refl
bit_back false = refl

pub bit_is : (b : Bool) → is_bit (bit_of b) ≡ true
bit_is true = refl
bit_is false = refl

pub bit_same : (n : ℕ) → is_bit n ≡ true → bit_of (eqb n 1) ≡ n
bit_same zero p = refl
bit_same (suc zero) p = refl
bit_same (suc (suc n)) p = absurd (omega (arith, leb-true (suc (suc n)) 1 p))
