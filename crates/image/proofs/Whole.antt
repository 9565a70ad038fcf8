-- The image of a record gives it back, and an image that is taken is that of the record which it gives.
-- Assumes nothing.
use mathlib.Core.Path.{◌≡◌, refl, ap}
use mathlib.Core.Bool.{Bool, true, false, ◌&&◌}
use lib.ListN.{length}
use Rattle.common.specs.Choice.{choose}
use Rattle.common.proofs.Joined.{and_left, and_right}
use Rattle.record.specs.declared.Regulator.{Regulator}
use Rattle.record.specs.declared.State.{State}
use Rattle.image.specs.declared.Image.{Image}
use Rattle.image.specs.declared.Numbers.{Numbers}
use Rattle.coding_ways.specs.Numbers.{is_way}
use Rattle.coding_fault.specs.Numbers.{is_fault}
use Rattle.coding_drive.specs.Numbers.{is_drive}
use Rattle.coding_wait.specs.Numbers.{is_wait}
use Rattle.coding_keys.specs.Numbers.{are_keys}
use Rattle.image_organs.specs.Places.{are_marks}
use Rattle.image.specs.Images.{way_numbers, numbers_of, is_state, state_of, numbers_in, image_with, image_of, taken_of, record_of}
use Rattle.coding_ways.proofs.Cases.{way_back, way_is, way_same}
use Rattle.coding_fault.proofs.Cases.{fault_back, fault_is, fault_same}
use Rattle.coding_drive.proofs.Cases.{drive_back, drive_is, drive_same}
use Rattle.coding_wait.proofs.Cases.{wait_back, wait_is, wait_same}
use Rattle.coding_keys.proofs.Cases.{keys_back, keys_are, keys_same}
use Rattle.image_organs.proofs.Organs.{organs_back, organs_are, marks_same, counts_same}

-- ---- from the record

pub state_back : (m : State) → state_of (numbers_of m) ≡ m
unfolding state_of numbers_of way_numbers
state_back m =
    rw (
      organs_back m.organs,
      drive_back m.drive,
      fault_back m.latch.fault,
      wait_back m.memory.wait,
      way_back m.memory.repeat,
      way_back m.wear.last,
      keys_back m.memory.keys,
      way_back m.memory.remembered,
    )

pub numbers_are : (m : State) → is_state (numbers_of m) ≡ true
unfolding is_state numbers_of way_numbers
numbers_are m =
    rw (
      organs_are m.organs,
      drive_is m.drive,
      fault_is m.latch.fault,
      wait_is m.memory.wait,
      way_is m.memory.repeat,
      way_is m.wear.last,
      way_is m.memory.remembered,
      keys_are m.memory.keys,
    )

pub back : (r : Regulator) → record_of (image_of r) ≡ taken_of r
unfolding record_of image_of choose
back r = rw (numbers_are r.state, state_back r.state)

-- ---- from the image

module _ (m : Numbers) (p : is_state m ≡ true) where
  -- what the test says of each part
  abbrev Parts : Type 0
  Parts =
      (are_marks m.organ_marks ≡ true) × (is_drive m.drive ≡ true) × (is_fault m.fault ≡ true) × (is_wait m.wait ≡ true)
      × (is_way m.repeat ≡ true) × (is_way m.last ≡ true) × (is_way m.remembered ≡ true) × (are_keys m.keys ≡ true)

  parts : Parts
  unfolding is_state
  parts =
      let marks = are_marks m.organ_marks in
      let drive = is_drive m.drive in
      let fault = is_fault m.fault in
      let wait = is_wait m.wait in
      let repeat = is_way m.repeat in
      let last = is_way m.last in
      let remembered = is_way m.remembered in
      let keys = are_keys m.keys in
      let rest : (marks && drive && fault && wait && (repeat && last && remembered)) ≡ true = and_left _ keys p in
      let ways : (repeat && last && remembered) ≡ true = and_right (marks && drive && fault && wait) (repeat && last && remembered) rest in
      let sides : (repeat && last) ≡ true = and_left _ remembered ways in
      let waits : (marks && drive && fault && wait) ≡ true = and_left _ (repeat && last && remembered) rest in
      let faults : (marks && drive && fault) ≡ true = and_left _ wait waits in
      let drives : (marks && drive) ≡ true = and_left _ fault faults in (
        and_left marks drive drives,
        and_right marks drive drives,
        and_right (marks && drive) fault faults,
        and_right (marks && drive && fault) wait waits,
        and_left repeat last sides,
        and_right repeat last sides,
        and_right (repeat && last) remembered ways,
        and_right (marks && drive && fault && wait && (repeat && last && remembered)) keys p,
      )

  pub numbers_same : length m.organ_marks ≡ length m.organ_counts → numbers_of (state_of m) ≡ m
  unfolding numbers_of state_of way_numbers
  numbers_same h =
      rw (
        marks_same _ _ parts.0 h,
        counts_same m.organ_marks _ h,
        drive_same _ parts.1,
        fault_same _ parts.2,
        wait_same _ parts.3,
        way_same _ parts.4,
        way_same _ parts.5,
        way_same _ parts.6,
        keys_same _ parts.7,
      )

-- an image that is taken passes the test, and is the image of the record that it gives
taken_is : (m : Image) (b : Bool) → is_state (numbers_in m) ≡ b → (record_of m).taken ≡ true → b ≡ true
unfolding record_of choose
taken_is m true e p = refl
taken_is m false e p = let k : ◌≡◌ {A = Bool} false true = rw e at p in cc

pub taken_same : (m : Image) → length m.organ_marks ≡ length m.organ_counts → (record_of m).taken ≡ true → image_of (record_of m).state ≡ m
unfolding record_of image_of choose
taken_same m h p =
    let t : is_state (numbers_in m) ≡ true = taken_is m (is_state (numbers_in m)) refl p in
    rw t (ap (image_with m.settings) (numbers_same (numbers_in m) t h))
