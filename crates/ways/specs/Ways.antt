-- A direction, or none. Definitions only.
use Rattle.std.specs.Prelude.{Bool, true, false, ◌&&◌, ◌||◌, Option, None, Some}
use Rattle.ways.specs.declared.Direction.{Direction}
use Rattle.ways.specs.declared.Direction.TheVariants.{Raise, Lower}

abbrev pub raises : Option Direction → Bool
raises None = false
raises (Some Raise) = true
raises (Some Lower) = false

abbrev pub lowers : Option Direction → Bool
lowers None = false
lowers (Some Raise) = false
lowers (Some Lower) = true

-- whether the way is this direction
abbrev pub is_to : Direction → Option Direction → Bool
is_to Raise w = raises w
is_to Lower w = lowers w

-- whether both are directions, and not the same
abbrev pub other_of : Option Direction → Option Direction → Bool
other_of a b = raises a && lowers b || lowers a && raises b

-- the new one, or the old where there is none
unfoldable pub newer_of : Option Direction → Option Direction → Option Direction
newer_of None old = old
newer_of (Some d) old = Some d
