-- Rule 9 of 01 in manual mode, and 02, ticket 6. Definitions only.
use Rattle.std.specs.Prelude.{Bool, not, ◌&&◌, ◌||◌, Option, None, Some}
use Rattle.common.specs.Choice.{choose}
use Rattle.ways.specs.declared.Direction.TheVariants.{Raise, Lower}
use Rattle.ways.specs.declared.Direction.{Direction}
use Rattle.ways.specs.Ways.{raises, lowers, newer_of}
use Rattle.blocks.specs.declared.Blocks.{Blocks}
use Rattle.keys.specs.declared.Buttons.{Buttons}
use Rattle.command.specs.declared.Heard.{Heard}
use Rattle.command.specs.declared.Situation.{Situation}
use Rattle.command.specs.declared.Decided.{Decided}
use Rattle.command.specs.Idling.{idle_of}

-- "exactly one button pressed, and that one not on the previous tick"
unfoldable pub pressed_of : Buttons → Buttons → Option Direction
pressed_of now before =
    choose (now.raise && not now.lower && not before.raise) (Some Raise)
    (choose (now.lower && not now.raise && not before.lower) (Some Lower) None)

abbrev pub press_of : Situation → Option Direction
press_of x = pressed_of x.heard.buttons x.heard.before

-- 02, ticket 6, on the first tick that starts with the drive at rest: a remembered press "is carried out as if pressed alone then"; "a real
-- press on that tick wins". That it is "dropped if blocked or if the drive starts by itself on that tick" is rule 9's own condition of a
-- press, below and in `decided_of`.
unfoldable pub sought_of : Situation → Option Direction
sought_of x = newer_of (press_of x) x.heard.remembered

-- "manual and the direction unblocked"
unfoldable pub granted_of : Blocks → Option Direction → Decided
granted_of b press =
    choose
    (raises press && not b.manual && not b.raise || lowers press && not b.manual && not b.lower)
    (record { command = press; wait = None })
    idle_of

unfoldable pub manual_of : Situation → Decided
manual_of x = granted_of x.blocks (sought_of x)

-- 02, ticket 6: "one press, as rule 9 judges it, blocks aside, made on a tick that starts with a command or move unfinished is remembered in
-- the record, the latest replacing the earlier one; two buttons newly pressed together change nothing". A tick that starts with the drive
-- at rest leaves none: there "it is carried out .. or dropped".
unfoldable pub remembered_of : Bool → Bool → Heard → Option Direction
remembered_of rested dropped h = choose (rested || dropped) None (newer_of (pressed_of h.buttons h.before) h.remembered)
