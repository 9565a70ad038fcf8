-- 02, ticket 8: "on which tick, counting from 1, would the first command begin if that tick repeated, which way, and what outputs and
-- record stand there". Definitions only.
use Rattle.std.specs.Prelude.{ℕ, ◌+◌, Bool, ◌&&◌, List, [], ◌∷◌, eqb, leb, replicate, get_or, Option, None, Some, Result, Ok, Err}
use Rattle.common.specs.Choice.{choose}
use Rattle.ways.specs.declared.Direction.TheVariants.{Raise, Lower}
use Rattle.ways.specs.declared.Direction.{Direction}
use Rattle.input.specs.declared.Input.{Input}
use Rattle.record.specs.declared.Regulator.{Regulator}
use Rattle.record_limits.specs.Limits.{within_of}
use Rattle.claim.specs.Claim.{Tick}
use Rattle.claim.specs.Runs.{run_of, At}
use Rattle.rules.specs.Ticks.{all_off, tick_of}
use Rattle.rules.specs.Lists.{left_by, seen_on, starts_on}
use Rattle.ahead.specs.declared.FirstCommand.{FirstCommand}
use Rattle.ahead.specs.declared.Outlook.{Outlook}
use Rattle.ahead.specs.declared.Refusal.{Refusal}
use Rattle.ahead.specs.declared.Refusal.TheVariants.{Record, Horizon}

-- what a look answers, as the paper counts it: 0, or the refusal 4 or 6; the tick, counted from 1, on which the first command begins, and
-- its way; else 0 and no way; and what outputs and record stand there
pub record Answer : Type 0 where
  pub refusal : ℕ
  pub tick : ℕ
  pub way : Option Direction
  pub outputs : List ℕ
  pub next : Regulator

-- ---- "if that tick repeated": the list of so many of it

-- a tick of the list: as demand 3 sees it, and the record that it left
pub record Looked : Type 0 where
  pub tick : Tick
  pub next : Regulator

abbrev pub looked_on : At Regulator → Input → Looked
looked_on a i = record { tick = seen_on a i; next = (tick_of a.got i).next }

abbrev pub looked_from : At Regulator → Input → ℕ → List Looked
looked_from a i n = run_of left_by looked_on a (replicate n i)

-- ---- "the first command"

-- the way of the command that a tick *begins*, by 01's words: "an accepted tick that starts at rest begins a raise if its output 0 is 1, a
-- lower if its output 1 is 1". `proofs/Begun.antt` ties it to the word of demand 3.
unfoldable pub way_begun : Bool → List ℕ → Option Direction
way_begun rest outputs =
    choose rest (choose (eqb (get_or outputs 0 0) 1) (Some Raise) (choose (eqb (get_or outputs 1 0) 1) (Some Lower) None)) None

unfoldable pub begun_by : Tick → Option Direction
begun_by t = choose (eqb t.refusal 0) (way_begun t.rest t.outputs) None

-- "what outputs and record stand there"
abbrev pub stands_at : ℕ → Option Direction → Looked → Answer
stands_at n way t = record { refusal = 0; tick = n; way = way; outputs = t.tick.outputs; next = t.next }

-- tick n, with the way that it begins; where it begins none, what comes later
unfoldable pub found_or : ℕ → Looked → Option Direction → Answer → Answer
found_or n t None later = later
found_or n t (Some d) later = stands_at n (Some d) t

-- of the ticks after the nth; "no command within the horizon is reported as tick 0, no way, with the outputs and record of its last tick"
unfoldable pub first_after : ℕ → Answer → List Looked → Answer
first_after n last [] = last
first_after n last (t ∷ ts) = found_or (n + 1) t (begun_by t.tick) (first_after (n + 1) (stands_at 0 None t) ts)

-- ---- the answer

-- "tick 0, no way, outputs 0 and the record as given"
abbrev pub as_given : ℕ → Regulator → Answer
as_given refusal r = record { refusal = refusal; tick = 0; way = None; outputs = all_off; next = r }

-- over a horizon of n ticks, at least one
abbrev pub outlook_from : At Regulator → Input → ℕ → Answer
outlook_from a i n = first_after 0 (as_given 0 a.got) (looked_from a i n)

-- "6 when the horizon is 0 or above 36,000"
abbrev pub longest_horizon : ℕ
longest_horizon = 36000

abbrev pub is_horizon : ℕ → Bool
is_horizon n = leb 1 n && leb n longest_horizon

-- 6 is "tested after 4"
unfoldable pub ahead_of : Regulator → Input → ℕ → Answer
ahead_of r i n = choose (within_of r) (choose (is_horizon n) (outlook_from (starts_on r) i n) (as_given 6 r)) (as_given 4 r)

-- ---- the same of what the code returns; it tells which result that is (`proofs/Apart.antt`)

abbrev pub number_of : Refusal → ℕ
number_of Record = 4
number_of Horizon = 6

abbrev pub tick_of_begun : Option FirstCommand → ℕ
tick_of_begun None = 0
tick_of_begun (Some b) = b.tick

abbrev pub way_of_begun : Option FirstCommand → Option Direction
way_of_begun None = None
way_of_begun (Some b) = Some b.direction

abbrev pub told_by : Outlook Regulator → Answer
told_by o = record { refusal = 0; tick = tick_of_begun o.begun; way = way_of_begun o.begun; outputs = o.outputs; next = o.next }

-- of a look at r: a refusal leaves all as given
abbrev pub answer_of : Regulator → Result (Outlook Regulator) Refusal → Answer
answer_of r (Ok o) = told_by o
answer_of r (Err e) = as_given (number_of e) r
