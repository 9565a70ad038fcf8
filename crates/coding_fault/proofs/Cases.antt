-- Each case has its numbers and is given back by them; numbers that are some case's are those of the case that they give.
-- Assumes nothing.
use mathlib.Core.Path.{◌≡◌, refl}
use mathlib.Core.Bool.{true}
use Prim.Native.Nat.{ℕ, zero, suc}
use native.Mathlib.Omega.{arith}
use borrow.Author.Tests.{leb-true}
use Rattle.common.specs.Choice.{choose}
use Rattle.fault.specs.declared.Fault.{Fault}
use Rattle.std.specs.Prelude.{Option, None, Some}
use Rattle.fault.specs.declared.Fault.TheVariants.{RunAway, NotStarted, Long, Fast}
use Rattle.coding_fault.specs.Numbers.{fault_number, is_fault, fault_of}

pub fault_back : (f : Option Fault) → fault_of (fault_number f) ≡ f
unfolding fault_of choose
fault_back None = refl
fault_back (Some RunAway) = refl
fault_back (Some NotStarted) = refl
fault_back (Some Long) = refl
fault_back (Some Fast) = refl

pub fault_is : (f : Option Fault) → is_fault (fault_number f) ≡ true
fault_is None = refl
fault_is (Some RunAway) = refl
fault_is (Some NotStarted) = refl
fault_is (Some Long) = refl
fault_is (Some Fast) = refl

pub fault_same : (n : ℕ) → is_fault n ≡ true → fault_number (fault_of n) ≡ n
unfolding fault_of choose
fault_same zero p = refl
fault_same (suc zero) p = refl
fault_same (suc (suc zero)) p = refl
fault_same (suc (suc (suc zero))) p = refl
fault_same (suc (suc (suc (suc zero)))) p = refl
fault_same (suc (suc (suc (suc (suc n))))) p = absurd (omega (arith, leb-true (suc (suc (suc (suc (suc n))))) 4 p))
