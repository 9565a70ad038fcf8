-- Rule 6 of 01: the voltage U; by U_comp with the ratings of 02, ticket 5. Definitions only.
use Rattle.std.specs.Prelude.{ℕ, ◌*◌, Bool, ◌&&◌, Option, None, Some, List, eqb, leb, ℤ, pos, ◌*ℤ◌}
use Rattle.std.specs.Int.Signed.{quot_z}
use Rattle.common.specs.Choice.{choose}
use Rattle.slots.specs.Slots.{slot, compensation, u_comp, ct_rating, breaker_rating}
use Rattle.measure.specs.declared.Measured.{Measured}
use Rattle.sheet_ranges.specs.Table.{module_factor}
use Rattle.busbar_current.specs.Current.{good_of, difference_of, current_of}

-- 02, ticket 5: "U_comp × I × slot 66, divided once by 1,000k × slot 67, toward zero"
unfoldable pub drop_of : ℕ → ℤ → ℕ → ℕ → ℕ → ℤ
drop_of comp i k ct breaker = quot_z (pos comp *ℤ i *ℤ pos ct) (pos (1000 * k * breaker))

-- 01's drop, by the module's rating: "U_comp × I ÷ (1,000k), rounded toward zero"; 02, ticket 5: "01's case stands for equal ratings"
unfoldable pub module_drop : ℕ → ℤ → ℕ → ℤ
module_drop comp i k = quot_z (pos comp *ℤ i) (pos (1000 * k))

-- no taken sheet has a U_comp above this, in mV
abbrev pub most_comp : ℕ
most_comp = 40000

-- "primary rating, 1–20,000 A": no taken sheet has another
abbrev pub most_rating : ℕ
most_rating = 20000

unfoldable pub is_rating : ℕ → Bool
is_rating n = leb 1 n && leb n most_rating

-- the settings of the drop are such as a sheet can hold
unfoldable pub is_rated : List ℕ → Bool
is_rated s = leb (slot s u_comp) most_comp && (is_rating (slot s ct_rating) && is_rating (slot s breaker_rating))

-- by settings that no taken sheet has, the drop is missing
unfoldable pub voltage_drop : List ℕ → Option ℤ → Option ℤ
voltage_drop s None = None
voltage_drop s (Some i) = choose (is_rated s) (Some (drop_of (slot s u_comp) i (module_factor s) (slot s ct_rating) (slot s breaker_rating))) None

-- "Good U_AB, less" the drop by U_comp "if slot 3 is 1"
unfoldable pub voltage_of : List ℕ → Measured → Measured → Measured → Option ℤ
voltage_of s ab bus coupler =
    choose (eqb (slot s compensation) 1) (difference_of (good_of ab) (voltage_drop s (current_of s bus coupler))) (good_of ab)
