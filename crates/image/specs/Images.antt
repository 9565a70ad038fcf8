-- The image of a record, and the record of an image. Definitions only.
use Rattle.std.specs.Prelude.{ℕ, Bool, true, false, ◌&&◌, List}
use Rattle.common.specs.Choice.{choose}
use Rattle.record.specs.declared.Regulator.{Regulator}
use Rattle.record.specs.declared.State.{State}
use Rattle.record.specs.Whole.{regulator_of}
use Rattle.record_starting.specs.Starting.{zeros_of}
use Rattle.image.specs.declared.Image.{Image}
use Rattle.image.specs.declared.Numbers.{Numbers}
use Rattle.image.specs.declared.WayNumbers.{WayNumbers}
use Rattle.coding_ways.specs.Numbers.{way_number, is_way, way_of}
use Rattle.coding_fault.specs.Numbers.{fault_number, is_fault, fault_of}
use Rattle.coding_drive.specs.Numbers.{drive_image, drive_of, is_drive}
use Rattle.coding_wait.specs.Numbers.{wait_image, wait_of, is_wait}
use Rattle.coding_keys.specs.Numbers.{key_image, keys_of, are_keys}
use Rattle.image_organs.specs.Places.{organ_numbers, organs_of, are_marks}

-- the side of the last automatic command, the last direction and the remembered press
unfoldable pub way_numbers : State → WayNumbers
way_numbers m =
    record { repeat = way_number m.memory.repeat; last = way_number m.wear.last; remembered = way_number m.memory.remembered }

-- a state in numbers
unfoldable pub numbers_of : State → Numbers
numbers_of m =
    record {
      organ_marks = (organ_numbers m.organs).marks;
      organ_counts = (organ_numbers m.organs).counts;
      drive = drive_image m.drive;
      fault = fault_number m.latch.fault;
      fault_age = m.latch.age;
      wait = wait_image m.memory.wait;
      repeat = (way_numbers m).repeat;
      last = (way_numbers m).last;
      counted_tap = m.wear.counted_tap;
      operations = m.wear.operations;
      keys = key_image m.memory.keys;
      remembered = (way_numbers m).remembered;
    }

-- each number that stands for a case is one of its numbers
unfoldable pub is_state : Numbers → Bool
is_state n =
    are_marks n.organ_marks && is_drive n.drive && is_fault n.fault && is_wait n.wait
    && (is_way n.repeat && is_way n.last && is_way n.remembered)
    && are_keys n.keys

unfoldable pub state_of : Numbers → State
state_of n =
    record {
      organs = organs_of n.organ_marks n.organ_counts;
      drive = drive_of n.drive;
      latch = record { fault = fault_of n.fault; age = n.fault_age };
      memory = record { wait = wait_of n.wait; repeat = way_of n.repeat; keys = keys_of n.keys; remembered = way_of n.remembered };
      wear = record { last = way_of n.last; operations = n.operations; counted_tap = n.counted_tap };
    }

-- the image but for its settings, and the image with them
abbrev pub numbers_in : Image → Numbers
numbers_in m =
    record {
      organ_marks = m.organ_marks;
      organ_counts = m.organ_counts;
      drive = m.drive;
      fault = m.fault;
      fault_age = m.fault_age;
      wait = m.wait;
      repeat = m.repeat;
      last = m.last;
      counted_tap = m.counted_tap;
      operations = m.operations;
      keys = m.keys;
      remembered = m.remembered;
    }

abbrev pub image_with : List ℕ → Numbers → Image
image_with s n =
    record {
      settings = s;
      organ_marks = n.organ_marks;
      organ_counts = n.organ_counts;
      drive = n.drive;
      fault = n.fault;
      fault_age = n.fault_age;
      wait = n.wait;
      repeat = n.repeat;
      last = n.last;
      counted_tap = n.counted_tap;
      operations = n.operations;
      keys = n.keys;
      remembered = n.remembered;
    }

unfoldable pub image_of : Regulator → Image
image_of r = image_with r.settings (numbers_of r.state)

-- what an image gives: its record, or, where it is no record's image, nothing and a record of zeros
pub record FromImage : Type 0 where
  pub taken : Bool
  pub state : Regulator

-- the record is there
abbrev pub taken_of : Regulator → FromImage
taken_of r = record { taken = true; state = r }

-- there is none
abbrev pub none_of : FromImage
none_of = record { taken = false; state = zeros_of }

unfoldable pub record_of : Image → FromImage
record_of m = choose (is_state (numbers_in m)) (taken_of (regulator_of m.settings (state_of (numbers_in m)))) none_of
