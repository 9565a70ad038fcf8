-- Rule 9 of 01: the longest wait, and a tick that decides nothing. Definitions only.
use Rattle.std.specs.Prelude.{ℕ, Option, None, Some}
use Rattle.ways.specs.declared.Direction.{Direction}
use Rattle.command.specs.declared.Wait.{Wait}
use Rattle.command.specs.declared.Decided.{Decided}

-- "wait at most 35,999"
abbrev pub longest_wait : ℕ
longest_wait = 35999

-- a wait to this side that has lasted so many ticks
abbrev pub waits_for : Direction → ℕ → Option Wait
waits_for d n = Some (record { direction = d; ticks = n })

-- no command, and a wait of 0
abbrev pub idle_of : Decided
idle_of = record { command = None; wait = None }
