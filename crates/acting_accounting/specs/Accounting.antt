-- Rule 7 of 01: "an ended move, fast or not, becomes the last direction, adds 1 to operations .. and .. steps the counted tap". Definitions only.
use Rattle.std.specs.Prelude.{ℕ, ◌+◌, Bool, List, ltb, eqb, Option}
use Rattle.common.specs.Choice.{choose}
use Rattle.slots.specs.Slots.{slot, wear_count}
use Rattle.ways.specs.declared.Direction.{Direction}
use Rattle.ways.specs.Ways.{newer_of}
use Rattle.tap_counted.specs.Counted.{counted_of}
use Rattle.acting_accounting.specs.declared.Accounted.{Accounted}
use Rattle.acting_accounting.specs.declared.Wear.{Wear}

-- "held at 999,999"
abbrev pub most_operations : ℕ
most_operations = 999999

-- "adds 1 to operations if slot 17 (held at 999,999)"
unfoldable pub one_more_of : List ℕ → ℕ → ℕ
one_more_of s n = choose (eqb (slot s wear_count) 1) (choose (ltb n most_operations) (n + 1) most_operations) n

unfoldable pub operations_of : List ℕ → ℕ → Bool → ℕ
operations_of s n operation = choose operation (one_more_of s n) n

-- a move that ended, and whether an operation counts; 02, ticket 2: without a contact "each command counts as one operation when it ends"
unfoldable pub accounted_of : List ℕ → Option Direction → Bool → Wear → Accounted
accounted_of s ended operation w =
    record {
      wear =
          record {
            last = newer_of ended w.last;
            operations = operations_of s w.operations operation;
            counted_tap = (counted_of s w.counted_tap ended).tap;
          };
      range_error = (counted_of s w.counted_tap ended).range_error;
    }
