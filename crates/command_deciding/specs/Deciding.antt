-- Rule 9 of 01: the command that begins, and the wait. Definitions only.
use Rattle.std.specs.Prelude.{List, ℕ}
use Rattle.common.specs.Choice.{choose}
use Rattle.command.specs.declared.Situation.{Situation}
use Rattle.command.specs.declared.Decided.{Decided}
use Rattle.command.specs.Idling.{idle_of}
use Rattle.command_automatic.specs.Automatic.{automatic_of}
use Rattle.command_manual.specs.Manual.{manual_of}

-- "a command begins, and the wait runs, only if the drive rested at tick start and still does; else the wait is 0"
unfoldable pub decided_of : List ℕ → Situation → Decided
decided_of s x = choose x.resting (choose x.automatic (automatic_of s x) (manual_of x)) idle_of
