-- Lists of ticks of the record, as demand 3 speaks of them (crate `claim`).
use Rattle.std.specs.Prelude.{ℕ, Bool, List, ◌∷◌, Option, None, Some}
use Rattle.claim.specs.Claim.{Tick, Opening, rest_after}
use Rattle.claim.specs.Runs.{run_of, At}
use Rattle.ways.specs.declared.Direction.{Direction}
use Rattle.ways.specs.declared.Direction.TheVariants.{Raise, Lower}
use Rattle.drive_follow.specs.Follow.{rests_of}
use Rattle.input.specs.declared.Input.{Input}
use Rattle.input.specs.Brought.{contacts_of}
use Rattle.command.specs.declared.Wait.{Wait}
use Rattle.command_automatic.specs.Automatic.{delay_of}
use Rattle.record.specs.declared.Regulator.{Regulator}
use Rattle.record_limits.specs.Limits.{within_of}
use Rattle.rules.specs.declared.Ticked.{Ticked}
use Rattle.rules.specs.Ticks.{refusal_in, outputs_in, sensed_in, tick_of}

-- *delay in force* to a side: "the one that rule 9 names on that tick"
abbrev pub delay_in : Direction → Regulator → Input → ℕ
delay_in d r i = delay_of r.settings d (sensed_in r i (contacts_of i.contacts)).assessed.far r.state.memory.repeat

-- the tick that starts at rest or not, got r and i, and gave t
abbrev pub seen : Bool → Regulator → Input → Ticked Regulator → Tick
seen rest r i t =
    record {
      rest = rest;
      settings = r.settings;
      low_delay = delay_in Raise r i;
      high_delay = delay_in Lower r i;
      contacts = i.contacts;
      refusal = refusal_in t.reply;
      outputs = outputs_in t.reply;
    }

-- "each tick getting the record that the last one returned"
abbrev pub left_by : At Regulator → Input → At Regulator
left_by a i = record { rest = rest_after (outputs_in (tick_of a.got i).reply); got = (tick_of a.got i).next }

abbrev pub seen_on : At Regulator → Input → Tick
seen_on a i = seen a.rest a.got i (tick_of a.got i)

-- the ticks of a list
abbrev pub ticks_from : Bool → Regulator → List Input → List Tick
ticks_from rest r is = run_of left_by seen_on (record { rest = rest; got = r }) is

-- what a list on the record r starts on
abbrev pub starts_on : Regulator → At Regulator
starts_on r = record { rest = rests_of r.state.drive; got = r }

-- the list that a call opens: its own tick, which got r and i and gave t, and then the ticks of `later`. *At rest*, "for the first tick,
-- the record handed in holds no asked command and no move".
abbrev pub list_from : Regulator → Input → Ticked Regulator → List Input → List Tick
list_from r i t later = seen (rests_of r.state.drive) r i t ∷ ticks_from (rest_after (outputs_in t.reply)) t.next later

-- the ticks to a side, of so many to that side or to the other: 0 where they are to the other
abbrev pub held_to : Direction → Direction → ℕ → ℕ
held_to Raise Raise n = n
held_to Raise Lower n = 0
held_to Lower Raise n = 0
held_to Lower Lower n = n

-- the ticks that a wait has lasted to a side: 0 where it is to the other
abbrev pub held_for : Direction → Option Wait → ℕ
held_for d None = 0
held_for d (Some w) = held_to d w.direction w.ticks

-- what a list on the record r begins on
abbrev pub opening : Regulator → Opening
opening r = record { within = within_of r; settings = r.settings; low_wait = held_for Raise r.state.memory.wait; high_wait = held_for Lower r.state.memory.wait }
