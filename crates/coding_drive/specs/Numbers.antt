-- The drive in numbers: the number of each case, and the case of each number. Definitions only.
use Rattle.std.specs.Prelude.{ℕ, Bool, true, false, not, ◌&&◌, ◌||◌, leb, eqb}
use Rattle.common.specs.Choice.{choose}
use Rattle.drive.specs.declared.Drive.{Drive}
use Rattle.drive.specs.declared.Drive.TheVariants.{Resting, Asked, Moving}
use Rattle.coding_drive.specs.declared.DriveImage.{DriveImage}
use Rattle.coding_ways.specs.Numbers.{direction_number, direction_of}

-- asked by an automatic command, or by a manual one
abbrev pub asked_number : Bool → ℕ
asked_number true = 1
asked_number false = 4

-- a commanded move, or an own one
abbrev pub move_number : Bool → ℕ
move_number true = 2
move_number false = 3

unfoldable pub drive_image : Drive → DriveImage
drive_image Resting = record { kind = 0; direction = 0; ticks = 0 }
drive_image (Asked d age automatic) = record { kind = asked_number automatic; direction = direction_number d; ticks = age }
drive_image (Moving d length commanded) = record { kind = move_number commanded; direction = direction_number d; ticks = length }

unfoldable pub drive_of : DriveImage → Drive
drive_of m =
    choose (eqb m.kind 0) Resting
    (choose (eqb m.kind 1 || eqb m.kind 4) (Asked (direction_of m.direction) m.ticks (eqb m.kind 1))
    (Moving (direction_of m.direction) m.ticks (eqb m.kind 2)))

-- the numbers are some drive's: zeros at rest
abbrev pub is_drive : DriveImage → Bool
is_drive m =
    leb m.kind 4 && leb m.direction 1 && (not (eqb m.kind 0) || (eqb m.direction 0 && eqb m.ticks 0))
