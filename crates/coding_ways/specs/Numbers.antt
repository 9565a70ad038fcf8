-- A direction and a way in numbers: the number of each case, and the case of each number. Definitions only.
use Rattle.std.specs.Prelude.{ℕ, Bool, leb, eqb, Option, None, Some}
use Rattle.common.specs.Choice.{choose}
use Rattle.ways.specs.declared.Direction.{Direction}
use Rattle.ways.specs.declared.Direction.TheVariants.{Raise, Lower}

abbrev pub direction_number : Direction → ℕ
direction_number Raise = 0
direction_number Lower = 1

unfoldable pub direction_of : ℕ → Direction
direction_of n = choose (eqb n 0) Raise Lower

abbrev pub way_number : Option Direction → ℕ
way_number None = 0
way_number (Some Raise) = 1
way_number (Some Lower) = 2

abbrev pub is_way : ℕ → Bool
is_way n = leb n 2

unfoldable pub way_of : ℕ → Option Direction
way_of n = choose (eqb n 0) None (choose (eqb n 1) (Some Raise) (Some Lower))
