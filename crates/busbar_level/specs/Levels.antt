-- What a level asks for. Definitions only.
use Rattle.std.specs.Prelude.{Bool, true, false, Option, None, Some}
use Rattle.ways.specs.declared.Direction.{Direction}
use Rattle.ways.specs.declared.Direction.TheVariants.{Raise, Lower}
use Rattle.busbar_level.specs.declared.Level.{Level}
use Rattle.busbar_level.specs.declared.Level.TheVariants.{Low, InBand, High}

-- the command that a deviation asks for: low a raise, high a lower
unfoldable pub side_of : Option Level → Option Direction
side_of None = None
side_of (Some Low) = Some Raise
side_of (Some InBand) = None
side_of (Some High) = Some Lower

abbrev pub is_missing : Option Level → Bool
is_missing None = true
is_missing (Some l) = false

abbrev pub is_in_band : Option Level → Bool
is_in_band None = false
is_in_band (Some Low) = false
is_in_band (Some InBand) = true
is_in_band (Some High) = false
