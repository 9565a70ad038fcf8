-- The wait in numbers: the number of each case, and the case of each number. Definitions only.
use Rattle.std.specs.Prelude.{Bool, not, ◌&&◌, ◌||◌, leb, eqb, Some, Option, None}
use Rattle.common.specs.Choice.{choose}
use Rattle.ways.specs.declared.Direction.TheVariants.{Raise, Lower}
use Rattle.command.specs.Idling.{waits_for}
use Rattle.command.specs.declared.Wait.{Wait}
use Rattle.coding_wait.specs.declared.WaitImage.{WaitImage}
use Rattle.coding_ways.specs.Numbers.{way_number}

unfoldable pub wait_image : Option Wait → WaitImage
wait_image None = record { side = 0; ticks = 0 }
wait_image (Some w) = record { side = way_number (Some w.direction); ticks = w.ticks }

unfoldable pub wait_of : WaitImage → Option Wait
wait_of m = choose (eqb m.side 0) None (choose (eqb m.side 1) (waits_for Raise m.ticks) (waits_for Lower m.ticks))

-- the numbers are some wait's: zeros without one
abbrev pub is_wait : WaitImage → Bool
is_wait m = leb m.side 2 && (not (eqb m.side 0) || eqb m.ticks 0)
