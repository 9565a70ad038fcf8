-- The words of the laws of a look ahead. Definitions only.
use Rattle.std.specs.Prelude.{ℕ, ◌+◌, ◌≤◌, ◌<◌, ◌≡◌, List, ◌∷◌, ◌++◌, eqb, length, replicate, Option, None, Some}
use Rattle.common.specs.Choice.{choose}
use Rattle.ways.specs.declared.Direction.{Direction}
use Rattle.input.specs.declared.Input.{Input}
use Rattle.record.specs.declared.Regulator.{Regulator}
use Rattle.claim.specs.Claim.{Tick, All, Begins, Command, Waiting}
use Rattle.claim.specs.Runs.{run_of, after_of, At}
use Rattle.rules.specs.Lists.{left_by, seen_on}
use Rattle.ahead.specs.Looking.{Answer}

-- the ticks of the tick repeated, and where they lead
abbrev pub repeated_ticks : At Regulator → Input → ℕ → List Tick
repeated_ticks a i n = run_of left_by seen_on a (replicate n i)

abbrev pub after_ticks : At Regulator → Input → ℕ → At Regulator
after_ticks a i n = after_of left_by a (replicate n i)

abbrev pub NoCommand : List Tick → Type 0
NoCommand l = All (λ t. Command t → ⊥) l

-- a tick of the horizon n, with a way; or 0 and none
pub record Named (n : ℕ) (o : Answer) : Type 0 where
  pub direction : Direction
  pub way : o.way ≡ Some direction
  pub counted : 1 ≤ o.tick
  pub inside : o.tick ≤ n

pub record Unnamed (o : Answer) : Type 0 where
  pub none : o.way ≡ None
  pub zero : o.tick ≡ 0

-- "the first command": on the tick of that number, none before it
pub record First (l : List Tick) (d : Direction) (o : Answer) : Type 0 where
  pub front : List Tick
  pub at : Tick
  pub post : List Tick
  pub whole : l ≡ front ++ (at ∷ post)
  pub none : NoCommand front
  pub begins : Begins d at
  pub number : length front + 1 ≡ o.tick
  pub outputs : o.outputs ≡ at.outputs

-- the ticks that were run: to the command, or else to the horizon n
abbrev pub ticks_run : ℕ → Answer → ℕ
ticks_run n o = choose (eqb o.tick 0) n o.tick

-- the same, n ticks later
abbrev pub later_tick : ℕ → Option Direction → ℕ → ℕ
later_tick n None tick = tick
later_tick n (Some d) tick = n + tick

abbrev pub later_by : ℕ → Answer → Answer
later_by n o = record { refusal = o.refusal; tick = later_tick n o.way o.tick; way = o.way; outputs = o.outputs; next = o.next }

-- each of the first n of the tick repeated is a waiting one, up to a command
abbrev pub WaitsOn : Direction → At Regulator → Input → ℕ → Type 0
WaitsOn d a i n = (k : ℕ) → k < n → NoCommand (repeated_ticks a i k) → Waiting d (seen_on (after_ticks a i k) i)
