-- The rules of one tick (01, 'The rules, in order'). Definitions only.
use Rattle.std.specs.Prelude.{ℕ, Bool, ◌||◌, List, eqb, replicate, Result, Ok, Err}
use Rattle.common.specs.Choice.{choose}
use Rattle.slots.specs.Slots.{slot, in_service}
use Rattle.input.specs.declared.Contacts.{Contacts}
use Rattle.input.specs.declared.Input.{Input}
use Rattle.input.specs.Brought.{contacts_of}
use Rattle.command.specs.declared.Memory.{Memory}
use Rattle.sensing.specs.declared.Sensed.{Sensed}
use Rattle.sensing.specs.Sensing.{sensed_of}
use Rattle.rules.specs.declared.Acted.{Acted}
use Rattle.rules.specs.Acting.{acted_of}
use Rattle.showing.specs.declared.Shown.{Shown}
use Rattle.showing.specs.Showing.{field_count, outputs_of}
use Rattle.record.specs.declared.Regulator.{Regulator}
use Rattle.record.specs.declared.State.{State}
use Rattle.record.specs.Whole.{regulator_of}
use Rattle.record_limits.specs.Limits.{within_of}
use Rattle.record_starting.specs.Starting.{fresh_of}
use Rattle.rules.specs.declared.Refused.{Refused}
use Rattle.rules.specs.declared.Refused.TheVariants.{Record}
use Rattle.rules.specs.declared.Ticked.{Ticked}

-- ---- rules 3 to 6: what is there

abbrev pub sensed_in : Regulator → Input → Contacts → Sensed
sensed_in r i c = sensed_of r.settings r.state.organs r.state.wear.counted_tap i c

-- ---- rules 2 and 7 to 9: what is done

-- what rule 9 goes by of the ticks before
abbrev pub memory_in : Regulator → Memory
memory_in r = r.state.memory

abbrev pub acted_in : Regulator → Contacts → Sensed → Acted
acted_in r c x = acted_of r.settings c x r.state.drive r.state.latch (memory_in r) r.state.wear

-- ---- rule 10 and the outputs; the next record

abbrev pub shown_of : Contacts → Sensed → Acted → Shown
shown_of c x y =
    record {
      automatic = c.automatic;
      section = x.observed.section;
      position = x.observed.position;
      counted_error = y.accounted.range_error;
      trips = x.organs.trips;
      blocks = y.blocks;
      level = x.assessed.level;
      latch = y.supervised.latch;
      before = y.supervised.before;
      drive = y.regulated.drive;
      operations = y.accounted.wear.operations;
    }

abbrev pub state_of : Sensed → Acted → State
state_of x y =
    record {
      organs = x.organs.organs;
      drive = y.regulated.drive;
      latch = y.supervised.latch;
      memory = y.regulated.memory;
      wear = y.accounted.wear;
    }

unfoldable pub end_of : Regulator → Contacts → Sensed → Acted → Ticked Regulator
end_of r c x y =
    record {
      reply = Ok (outputs_of r.settings (shown_of c x y));
      next = regulator_of r.settings (state_of x y);
    }

-- rules 2 to 10, on a record in service
unfoldable pub ran_of : Regulator → Input → Contacts → Ticked Regulator
ran_of r i c = end_of r c (sensed_in r i c) (acted_in r c (sensed_in r i c))

-- ---- rule 1, and the refusal

-- "all outputs 0"
abbrev pub all_off : List ℕ
all_off = replicate field_count 0

-- "slot 0 is 0 or bit 13 set"
unfoldable pub is_out : Regulator → Contacts → Bool
is_out r c = eqb (slot r.settings in_service) 0 || c.out

-- "the record becomes the fresh one, all outputs 0, tick over"
unfoldable pub out_of : Regulator → Ticked Regulator
out_of r = record { reply = Ok all_off; next = fresh_of r.settings }

-- the refusal's number: "tick on a record outside its limits" is 4
abbrev pub refused_number : Refused → ℕ
refused_number Record = 4

-- the number of a tick's answer, 0 where it is accepted
abbrev pub refusal_in : Result (List ℕ) Refused → ℕ
refusal_in (Ok outputs) = 0
refusal_in (Err why) = refused_number why

-- its outputs: all 0 where it is refused
abbrev pub outputs_in : Result (List ℕ) Refused → List ℕ
outputs_in (Ok outputs) = outputs
outputs_in (Err why) = all_off

-- refused: the record left as it was
unfoldable pub refused_of : Regulator → Ticked Regulator
refused_of r = record { reply = Err Record; next = r }

-- the tick
unfoldable pub tick_of : Regulator → Input → Ticked Regulator
tick_of r i = choose (within_of r) (choose (is_out r (contacts_of i.contacts)) (out_of r) (ran_of r i (contacts_of i.contacts))) (refused_of r)

-- what a tick answers and leaves but for the settings, which no tick changes (`rules/proofs/Steps.antt`)
abbrev pub stepped_of : Ticked Regulator → Ticked State
stepped_of t = record { reply = t.reply; next = t.next.state }
