-- Rule 10 of 01: the command that is on. Definitions only.
use Rattle.std.specs.Prelude.{ℕ, ◌&&◌, leb, Option, None, Some}
use Rattle.common.specs.Choice.{choose}
use Rattle.ways.specs.declared.Direction.{Direction}
use Rattle.drive.specs.declared.Drive.{Drive}
use Rattle.drive.specs.declared.Drive.TheVariants.{Resting, Asked, Moving}

-- "a command is on while asked, and in its move while length ≤ T7": an own move has no command
unfoldable pub on_of : Drive → ℕ → Option Direction
on_of Resting t7 = None
on_of (Asked d age automatic) t7 = Some d
on_of (Moving d n commanded) t7 = choose (commanded && leb n t7) (Some d) None
