-- A tick of a list with what the rules find on it: what the memories of a record are said by. Definitions only.
use Rattle.std.specs.Prelude.{◌≡◌, Bool, true, List, ◌⊎◌}
use Rattle.slots.specs.Slots.{slot, in_service}
use Rattle.std.specs.Prelude.{Option}
use Rattle.ways.specs.declared.Direction.{Direction}
use Rattle.input.specs.declared.Contacts.{Contacts}
use Rattle.input.specs.declared.Input.{Input}
use Rattle.input.specs.Brought.{bit_of, contacts_of}
use Rattle.busbar_level.specs.declared.Level.{Level}
use Rattle.fault.specs.declared.Fault.{Fault}
use Rattle.command_manual.specs.Manual.{pressed_of}
use Rattle.command_pairs.specs.Pairs.{changed_of}
use Rattle.acting_supervising.specs.Supervising.{cleared_of, followed_of}
use Rattle.acting_commanding.specs.Commanding.{heard_in}
use Rattle.sensing.specs.declared.Sensed.{Sensed}
use Rattle.record.specs.declared.Regulator.{Regulator}
use Rattle.claim.specs.Claim.{Tick, Accepted, output}
use Rattle.claim.specs.Runs.{run_of, At}
use Rattle.rules.specs.Acting.{finding_of}
use Rattle.rules.specs.Ticks.{sensed_in, memory_in, acted_in}
use Rattle.rules.specs.Lists.{left_by, seen_on, starts_on}

pub record Past : Type 0 where
  -- as demand 3 sees it
  pub tick : Tick
  -- rule 6: the place of U, which no output tells where it is in band or missing; and U > U_set5
  pub level : Option Level
  pub above : Bool
  -- rule 7: the move that ended, whether it went past an end of the taps, and the fault that arose
  pub ended : Option Direction
  pub past_end : Bool
  pub arose : Option Fault
  -- rule 9: the press, blocks aside; whether the mode, local or remote, is another than on the previous tick
  pub press : Option Direction
  pub changed : Bool

-- with what rules 3 to 6 found
abbrev pub past_of : Tick → Regulator → Contacts → Sensed → Past
past_of t r c x =
    record {
      tick = t;
      level = x.assessed.level;
      above = x.assessed.far;
      ended = (acted_in r c x).supervised.ended;
      past_end = (acted_in r c x).accounted.range_error;
      arose = (followed_of r.settings c (finding_of x) r.state.drive (cleared_of c r.state.latch) r.state.wear.last).fault;
      press = pressed_of (heard_in c (memory_in r)).buttons (heard_in c (memory_in r)).before;
      changed = changed_of c.keys (memory_in r).keys;
    }

abbrev pub past_on : At Regulator → Input → Past
past_on a i = past_of (seen_on a i) a.got (contacts_of i.contacts) (sensed_in a.got i (contacts_of i.contacts))

-- the ticks of a list on the record r
abbrev pub pasts_from : Regulator → List Input → List Past
pasts_from r is = run_of left_by past_on (starts_on r) is

-- ---- the words

-- rule 1: "slot 0 is 0 or bit 13 set"
abbrev pub Out : Tick → Type 0
Out t = (slot t.settings in_service ≡ 0) ⊎ (bit_of t.contacts 13 ≡ true)

-- rules 2 to 10 ran on the tick
pub record Ran (t : Tick) : Type 0 where
  pub accepted : Accepted t
  pub not_out : Out t → ⊥

-- outputs "19–22 run-away, not started, long, fast": none
abbrev pub Faultless : Tick → Type 0
Faultless t = (output 19 t ≡ 0) × (output 20 t ≡ 0) × (output 21 t ≡ 0) × (output 22 t ≡ 0)
