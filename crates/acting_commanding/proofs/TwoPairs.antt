-- Of the keys and the remembered press, rule 9 goes by what is heard alone (02, ticket 7).
-- Assumes nothing.
use mathlib.Core.Path.{◌≡◌, refl}
use mathlib.Core.Bool.{true, false}
use mathlib.Core.List.{List}
use Prim.Native.Nat.{ℕ}
use Rattle.input.specs.declared.Contacts.{Contacts}
use Rattle.drive.specs.declared.Drive.{Drive}
use Rattle.fault.specs.declared.Fault.{Fault}
use Rattle.std.specs.Prelude.{Option, None}
use Rattle.ways.specs.declared.Direction.{Direction}
use Rattle.blocks.specs.declared.Blocks.{Blocks}
use Rattle.keys.specs.declared.Keys.{Keys}
use Rattle.command.specs.declared.Memory.{Memory}
use Rattle.command_pairs.specs.Pairs.{pair_of, changed_of, heard_of}
use Rattle.command_deciding.proofs.Presses.{none_begins}
use Rattle.command_pairs.proofs.TwoPairs.{change_drops, held_through}
use Rattle.sensing_assessing.specs.declared.Assessed.{Assessed}
use Rattle.acting_commanding.specs.Commanding.{ask_of, heard_in, situation_of, decision_of, regulated_of, drops_of, kept_press_of}

-- the contacts with these keys
abbrev pub contacts_with : Keys → Contacts → Contacts
contacts_with k c =
    record {
      breaker_closed = c.breaker_closed;
      switching = c.switching;
      supply_off = c.supply_off;
      oil_cold = c.oil_cold;
      oil_low = c.oil_low;
      oil_high = c.oil_high;
      end_up = c.end_up;
      end_down = c.end_down;
      overcurrent = c.overcurrent;
      external_block = c.external_block;
      raise_block = c.raise_block;
      lower_block = c.lower_block;
      reset = c.reset;
      out = c.out;
      automatic = c.automatic;
      local_drive = c.local_drive;
      u_supp2 = c.u_supp2;
      u_supp3 = c.u_supp3;
      u_supp4 = c.u_supp4;
      keys = k;
    }

-- what rule 9 keeps, with these keys and this press
abbrev pub memory_with : Keys → Option Direction → Memory → Memory
memory_with k press m = record { wait = m.wait; repeat = m.repeat; keys = k; remembered = press }

-- what rule 9 keeps, but for the keys, which are these
abbrev pub keyed : Keys → Memory → Memory
keyed k m = memory_with k m.remembered m

module _ (c : Contacts) (m : Memory) (now before : Keys) (press : Option Direction) (h : heard_of now before press ≡ heard_in c m) where
  -- the same drive, and the same memory but for the keys, which are this tick's
  pub regulated_by_heard : (s : List ℕ) (a : Assessed) (b : Blocks) (was d : Drive) (f : Option Fault)
      → regulated_of s (contacts_with now c) a b (memory_with before press m) was d f
      ≡ record { drive = (regulated_of s c a b m was d f).drive; memory = keyed now (regulated_of s c a b m was d f).memory }
  unfolding regulated_of decision_of situation_of kept_press_of drops_of
  regulated_by_heard s a b was d f = rw h refl

-- nothing begins in manual mode on the tick of a change, where the buttons of the new mode's pair are held over from the previous tick
module _ (c : Contacts) (m : Memory) where
  unheard : changed_of c.keys m.keys ≡ true → (heard_in c m).remembered ≡ None
  unheard k = change_drops c.keys m.keys m.remembered k

  pub held_begins_nothing : c.automatic ≡ false → changed_of c.keys m.keys ≡ true
      → ((pair_of c.keys.remote c.keys).raise ≡ true → (pair_of c.keys.remote m.keys).raise ≡ true)
      → ((pair_of c.keys.remote c.keys).lower ≡ true → (pair_of c.keys.remote m.keys).lower ≡ true)
      → (s : List ℕ) (a : Assessed) (b : Blocks) (was d : Drive) (f : Option Fault) → (regulated_of s c a b m was d f).drive ≡ d
  unfolding regulated_of decision_of situation_of ask_of
  held_begins_nothing e k p q s a b was d f =
      rw (none_begins s (situation_of c a b m was d) e (held_through c.keys m.keys m.remembered p q) (unheard k))
