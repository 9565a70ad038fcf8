-- Each case has its numbers and is given back by them; numbers that are some case's are those of the case that they give.
-- Assumes nothing.
use mathlib.Core.Path.{◌≡◌, refl}
use mathlib.Core.Bool.{true}
use Prim.Native.Nat.{ℕ, zero, suc}
use native.Mathlib.Omega.{arith}
use borrow.Author.Tests.{leb-true}
use lib.Dec.{leb}
use Rattle.common.specs.Choice.{choose}
use Rattle.ways.specs.declared.Direction.{Direction}
use Rattle.ways.specs.declared.Direction.TheVariants.{Raise, Lower}
use Rattle.std.specs.Prelude.{Option, None, Some}
use Rattle.coding_ways.specs.Numbers.{direction_number, direction_of, way_number, is_way, way_of}

pub direction_back : (d : Direction) → direction_of (direction_number d) ≡ d
unfolding direction_of choose
direction_back Raise = refl
direction_back Lower = refl

pub direction_same : (n : ℕ) → leb n 1 ≡ true → direction_number (direction_of n) ≡ n
unfolding direction_of choose
direction_same zero p = refl
direction_same (suc zero) p = refl
direction_same (suc (suc n)) p = absurd (omega (arith, leb-true (suc (suc n)) 1 p))

pub way_back : (w : Option Direction) → way_of (way_number w) ≡ w
unfolding way_of choose
way_back None = refl
way_back (Some Raise) = refl
way_back (Some Lower) = refl

pub way_is : (w : Option Direction) → is_way (way_number w) ≡ true
way_is None = refl
way_is (Some Raise) = refl
way_is (Some Lower) = refl

pub way_same : (n : ℕ) → is_way n ≡ true → way_number (way_of n) ≡ n
unfolding way_of choose
way_same zero p = refl
way_same (suc zero) p = refl
way_same (suc (suc zero)) p = refl
way_same (suc (suc (suc n))) p = absurd (omega (arith, leb-true (suc (suc (suc n))) 2 p))
