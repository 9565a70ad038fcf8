-- The parts make the whole: over plain values, as the function has them, and `search` finds it.
-- Assumes nothing.
use mathlib.Core.Path.{◌≡◌}
use mathlib.Core.List.{List}
use Rattle.organ.specs.declared.Organ.{Organ}
use Rattle.drive.specs.declared.Drive.{Drive}
use Rattle.fault.specs.declared.Fault.{Fault}
use Rattle.std.specs.Prelude.{Option}
use Rattle.ways.specs.declared.Direction.{Direction}
use Rattle.command.specs.declared.Memory.{Memory}
use Rattle.record.specs.declared.State.{State}
use Rattle.coding_ways.specs.Numbers.{way_of}
use Rattle.coding_fault.specs.Numbers.{fault_of}
use Rattle.coding_drive.specs.Numbers.{drive_of}
use Rattle.image_organs.specs.Places.{organs_of}
use Rattle.image.specs.declared.Numbers.{Numbers}
use Rattle.image.specs.Images.{state_of}

module _ (n : Numbers) {os : List Organ} {d : Drive} {f : Option Fault} {m : Memory} {last : Option Direction} where
  pub state_made : os ≡ organs_of n.organ_marks n.organ_counts → d ≡ drive_of n.drive → f ≡ fault_of n.fault
      → m ≡ (state_of n).memory
      → last ≡ way_of n.last
      → ◌≡◌ {A = State}
      (record {
        organs = os;
        drive = d;
        latch = record { fault = f; age = n.fault_age };
        memory = m;
        wear = record { last = last; operations = n.operations; counted_tap = n.counted_tap };
      })
      (state_of n)
  unfolding state_of
  state_made eo ed ef em el = rw (eo, ed, ef, em, el)
