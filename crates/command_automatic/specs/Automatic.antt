-- Rule 9 of 01 in automatic mode. Definitions only.
use Rattle.std.specs.Prelude.{ℕ, ◌+◌, Bool, not, ◌&&◌, ◌||◌, List, leb, Option, None, Some}
use Rattle.common.specs.Choice.{choose}
use Rattle.slots.specs.Slots.{slot, t1, t2, t3, is_continuous}
use Rattle.ways.specs.declared.Direction.{Direction}
use Rattle.ways.specs.Ways.{lowers, is_to, other_of, newer_of}
use Rattle.blocks.specs.Blocked.{opposed_of}
use Rattle.command.specs.declared.Wait.{Wait}
use Rattle.command.specs.declared.Situation.{Situation}
use Rattle.command.specs.declared.Decided.{Decided}
use Rattle.command.specs.Idling.{idle_of, waits_for}

-- "commands, wait 0"
abbrev pub commanded_of : Direction → Decided
commanded_of d = record { command = Some d; wait = None }

unfoldable pub ticks_of : Direction → Option Direction → ℕ → ℕ
ticks_of d w n = choose (is_to d w) n 0

-- the wait to the side of a direction, "from 0 on a new side"
unfoldable pub waited_of : Direction → Option Wait → ℕ
waited_of d None = 0
waited_of d (Some w) = ticks_of d (Some w.direction) w.ticks

-- delay in force: "T3 if high and U > U_set5, else T2 if the last automatic command was to this side and no tick since was in band, to
-- the other side, or in manual mode; else T1". High is the side that a lower answers. 02, ticket 2, with slot 63: "rule 9's delay is then
-- T3 where it names T3, else T1, never T2".
unfoldable pub delay_of : List ℕ → Direction → Bool → Option Direction → ℕ
delay_of s d far repeat =
    choose (lowers (Some d) && far) (slot s t3) (choose (is_to d repeat && not (is_continuous s)) (slot s t2) (slot s t1))

-- "adds 1 to the wait"; "wait ≥ delay commands, wait 0"
unfoldable pub wait_on_of : Direction → ℕ → ℕ → Decided
wait_on_of d n delay = choose (leb delay (n + 1)) (commanded_of d) (record { command = None; wait = waits_for d (n + 1) })

-- "unblocked deviation adds 1 to the wait; anything else makes it 0"
unfoldable pub toward_of : List ℕ → Situation → Direction → Decided
toward_of s x d =
    choose (x.blocks.automatic || opposed_of x.blocks d) idle_of
    (wait_on_of d (waited_of d x.wait) (delay_of s d x.far x.repeat))

unfoldable pub sided_of : List ℕ → Situation → Option Direction → Decided
sided_of s x None = idle_of
sided_of s x (Some d) = toward_of s x d

abbrev pub automatic_of : List ℕ → Situation → Decided
automatic_of s x = sided_of s x x.side

-- the side for which T2 is in force: that of the last automatic command, until a tick is in band, to the other side, or in manual mode.
-- It is kept with slot 63 too, where no delay goes by it.
unfoldable pub kept_of : Bool → Option Direction → Option Direction → Option Direction
kept_of in_band side old = choose (in_band || other_of side old) None old

unfoldable pub repeat_of : Bool → Bool → Option Direction → Option Direction → Option Direction → Option Direction
repeat_of automatic in_band side command old = choose automatic (newer_of command (kept_of in_band side old)) None
