-- Rule 7 of 01: the counted tap's step. Definitions only.
use Rattle.std.specs.Prelude.{ℕ, ◌+◌, ◌-◌, Bool, true, false, not, ◌||◌, List, ltb, eqb, Option, None, Some}
use Rattle.common.specs.Choice.{choose}
use Rattle.slots.specs.Slots.{slot, tap_source, n_l, n_r}
use Rattle.ways.specs.declared.Direction.{Direction}
use Rattle.ways.specs.declared.Direction.TheVariants.{Raise, Lower}
use Rattle.tap_counted.specs.declared.Counted.{Counted}

-- a counted tap, with or without a range error
abbrev pub tap_of : ℕ → Bool → Counted
tap_of tap error = record { tap = tap; range_error = error }

-- "past an end it stays, with a range error that tick"
unfoldable pub up_of : ℕ → ℕ → Counted
up_of tap end = choose (ltb tap end) (tap_of (tap + 1) false) (tap_of tap true)

unfoldable pub down_of : ℕ → ℕ → Counted
down_of tap end = choose (ltb end tap) (tap_of (tap - 1) false) (tap_of tap true)

-- "raise +1, reversed −1, lower the opposite"
abbrev pub is_up : Direction → Bool → Bool
is_up Raise reversed = not reversed
is_up Lower reversed = reversed

unfoldable pub step_of : List ℕ → ℕ → Direction → Counted
step_of s tap d = choose (is_up d (eqb (slot s tap_source) 4)) (up_of tap (slot s n_r)) (down_of tap (slot s n_l))

-- after a tick on which a move ended, or none
unfoldable pub moved_of : List ℕ → ℕ → Option Direction → Counted
moved_of s tap None = tap_of tap false
moved_of s tap (Some d) = step_of s tap d

-- "if slot 5 is 3 or 4"
unfoldable pub counted_of : List ℕ → ℕ → Option Direction → Counted
counted_of s tap ended = choose (eqb (slot s tap_source) 3 || eqb (slot s tap_source) 4) (moved_of s tap ended) (tap_of tap false)
