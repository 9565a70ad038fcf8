-- The columns that the code holds the table in: what its own functions say to each other, and no promise to a caller.
use Rattle.std.specs.Prelude.{ℕ, zero, suc, ◌*◌, ◌/◌, ◌≤◌, List, [], ◌∷◌, get_or, set}
use Rattle.slots.specs.Slots.{slots, i_set1, i_set2, i_set3, resistance, reactance}
use Rattle.sheet_ranges.specs.Table.{Row, row_of}

-- a part of the row of each of the n slots from i, and of all
abbrev pub column_from : (Row → ℕ) → ℕ → ℕ → List ℕ
column_from part i zero = []
column_from part i (suc n) = part (row_of i) ∷ column_from part (suc i) n

unfoldable pub low_column : List ℕ
low_column = column_from (λ r. r.low) 0 slots

unfoldable pub high_column : List ℕ
high_column = column_from (λ r. r.high) 0 slots

unfoldable pub step_column : List ℕ
step_column = column_from (λ r. r.step) 0 slots

-- the rows that are scaled are small enough for their products: no current's row is above 40 A, as for 1 A, no impedance's above 80 Ω, as
-- for 5 A
abbrev pub most_current : ℕ
most_current = 40000

abbrev pub most_impedance : ℕ
most_impedance = 80000

abbrev pub Scalable : List ℕ → Type 0
Scalable l =
    (get_or l i_set1 0 ≤ most_current) × (get_or l i_set2 0 ≤ most_current) × (get_or l i_set3 0 ≤ most_current) × (get_or l resistance 0 ≤ most_impedance) × (get_or l reactance 0 ≤ most_impedance)

-- a column with its current rows times k
abbrev currents_by : ℕ → List ℕ → List ℕ
currents_by k l = set (set (set l i_set1 (get_or l i_set1 0 * k)) i_set2 (get_or l i_set2 0 * k)) i_set3 (get_or l i_set3 0 * k)

-- and with its impedance rows times 5 ÷ k
unfoldable pub times_k : ℕ → List ℕ → List ℕ
times_k k l = set (set (currents_by k l) resistance (get_or l resistance 0 * (5 / k))) reactance (get_or l reactance 0 * (5 / k))
