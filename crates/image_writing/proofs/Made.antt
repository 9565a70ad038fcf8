-- The parts make the whole: over plain values, as the function has them, and `search` finds it.
-- Assumes nothing.
use mathlib.Core.Path.{◌≡◌}
use Prim.Native.Nat.{ℕ}
use Rattle.record.specs.declared.Regulator.{Regulator}
use Rattle.record.specs.declared.State.{State}
use Rattle.coding_drive.specs.declared.DriveImage.{DriveImage}
use Rattle.coding_wait.specs.declared.WaitImage.{WaitImage}
use Rattle.coding_keys.specs.declared.KeyImage.{KeyImage}
use Rattle.image_organs.specs.declared.OrganNumbers.{OrganNumbers}
use Rattle.coding_fault.specs.Numbers.{fault_number}
use Rattle.coding_drive.specs.Numbers.{drive_image}
use Rattle.coding_wait.specs.Numbers.{wait_image}
use Rattle.coding_keys.specs.Numbers.{key_image}
use Rattle.image_organs.specs.Places.{organ_numbers}
use Rattle.image.specs.declared.Image.{Image}
use Rattle.image.specs.declared.Numbers.{Numbers}
use Rattle.image.specs.declared.WayNumbers.{WayNumbers}
use Rattle.image.specs.Images.{way_numbers, numbers_of, image_of, taken_of, record_of}
use Rattle.image.proofs.Whole.{back}

module _ (m : State) {n : OrganNumbers} {d : DriveImage} {f : ℕ} {w : WaitImage} {u : WayNumbers} {k : KeyImage} where
  pub numbers_made : n ≡ organ_numbers m.organs → d ≡ drive_image m.drive → f ≡ fault_number m.latch.fault → w ≡ wait_image m.memory.wait
      → u ≡ way_numbers m
      → k ≡ key_image m.memory.keys
      → ◌≡◌ {A = Numbers}
      (record {
        organ_marks = n.marks;
        organ_counts = n.counts;
        drive = d;
        fault = f;
        fault_age = m.latch.age;
        wait = w;
        repeat = u.repeat;
        last = u.last;
        counted_tap = m.wear.counted_tap;
        operations = m.wear.operations;
        keys = k;
        remembered = u.remembered;
      })
      (numbers_of m)
  unfolding numbers_of
  numbers_made en ed ef ew eu ek = rw (en, ed, ef, ew, eu, ek)

pub imaged : (r : Regulator) {m : Image} → m ≡ image_of r → (m ≡ image_of r) × (record_of m ≡ taken_of r)
imaged r e = (e, rw e (back r))
