-- The record that a sheet gives (01, 'The setting sheet' and rule 1; 02, ticket 7). Definitions only.
use Rattle.std.specs.Prelude.{ℕ, Bool, true, false, List, eqb, replicate, Result, Ok, Err, None}
use Rattle.common.specs.Choice.{choose}
use Rattle.slots.specs.Slots.{slot, slots, n_pos, n_start}
use Rattle.sheet.specs.declared.Refusal.{Refusal}
use Rattle.sheet.specs.Sheet.{number_of, slot_of, Reply, returned_of}
use Rattle.organ.specs.Runs.{cleared}
use Rattle.drive.specs.declared.Drive.TheVariants.{Resting}
use Rattle.keys.specs.declared.Keys.{Keys}
use Rattle.record.specs.declared.Regulator.{Regulator}
use Rattle.record.specs.declared.State.{State}
use Rattle.record.specs.Whole.{regulator_of}

-- local mode, and all four buttons pressed or none
abbrev pub local_keys : Bool → Keys
local_keys pressed =
    record { panel = record { raise = pressed; lower = pressed }; dispatcher = record { raise = pressed; lower = pressed }; remote = false }

-- a state with nothing going on
abbrev pub idle_of : ℕ → ℕ → Bool → State
idle_of tap operations pressed =
    record {
      organs = replicate 7 cleared;
      drive = Resting;
      latch = record { fault = None; age = 0 };
      memory = record { wait = None; repeat = None; keys = local_keys pressed; remembered = None };
      wear = record { last = None; operations = operations; counted_tap = tap };
    }

-- "fresh: at rest, no organ marked, nothing latched or waiting, no last direction or automatic command, counted tap N_pos, operations
-- N_start, both buttons remembered as pressed"; 02, ticket 7: each pair "pressed when fresh". No press is remembered, so that no tick goes by
-- the mode of a fresh record: it is local
abbrev pub fresh_state : List ℕ → State
fresh_state s = idle_of (slot s n_pos) (slot s n_start) true

unfoldable pub fresh_of : List ℕ → Regulator
fresh_of s = regulator_of s (fresh_state s)

-- "record of zeros"
unfoldable pub zeros_of : Regulator
zeros_of = regulator_of (replicate slots 0) (idle_of 0 0 false)

-- "a list that passes gives the fresh record, which carries it"
abbrev pub started_of : Result (List ℕ) Refusal → Result Regulator Refusal
started_of (Ok s) = Ok (fresh_of s)
started_of (Err e) = Err e

-- the record, of zeros where the list is refused
abbrev pub record_of : Result Regulator Refusal → Regulator
record_of (Ok r) = r
record_of (Err e) = zeros_of

-- what is returned, in the paper's numbers
pub record Start : Type 0 where
  pub number : ℕ
  pub slot : ℕ
  pub state : Regulator

-- an answer by its number and slot, with its record
abbrev pub replied_of : Result Regulator Refusal → Start
replied_of r = record { number = number_of r; slot = slot_of r; state = record_of r }

-- the paper's table of refusals, with the record that each row returns
abbrev pub state_of : Reply → Start
state_of p = record { number = p.number; slot = p.slot; state = choose (eqb p.number 0) (fresh_of p.settings) zeros_of }

unfoldable pub start_of : List ℕ → Start
start_of s = state_of (returned_of s)
