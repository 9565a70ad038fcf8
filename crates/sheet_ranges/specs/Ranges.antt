-- The lowest slot out of range. Definitions only.
use Rattle.std.specs.Prelude.{ℕ, zero, suc, Bool, List}
use Rattle.common.specs.Choice.{choose}
use Rattle.slots.specs.Slots.{slot, slots}
use Rattle.sheet_ranges.specs.Table.{taken_of, module_factor}

-- the lowest of the n numbers from i at which the test fails; i + n where it never does
unfoldable pub first_from : (ℕ → Bool) → ℕ → ℕ → ℕ
first_from f zero i = i
first_from f (suc n) i = choose (f i) (first_from f n (suc i)) i

-- whether the number at the slot is taken
unfoldable pub taken_in : List ℕ → ℕ → Bool
taken_in s i = taken_of (module_factor s) i (slot s i)

-- the lowest slot that is out of range; the number of slots where none is
unfoldable pub first_out_of_range : List ℕ → ℕ
first_out_of_range s = first_from (taken_in s) slots 0
