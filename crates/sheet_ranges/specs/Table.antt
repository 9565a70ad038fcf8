-- The paper's table of the ranges, row by row, and the numbers that it takes.
use Rattle.std.specs.Prelude.{ℕ, ◌+◌, ◌-◌, ◌*◌, ◌/◌, ◌%◌, ◌≤◌, ◌≡◌, Bool, ◌&&◌, List, [], ◌∷◌, leb, eqb}
use Rattle.common.specs.Choice.{choose}
use Rattle.slots.specs.Slots.{slot, module_kind}

-- a row: its slots, first to last, their low, high and step, and what low and high are times, by k
pub record Row : Type 0 where
  pub first : ℕ
  pub last : ℕ
  pub low : ℕ
  pub high : ℕ
  pub step : ℕ
  pub scale : ℕ → ℕ

-- a row whose range is the same with either module
abbrev row : ℕ → ℕ → ℕ → ℕ → ℕ → Row
row a b l h s = record { first = a; last = b; low = l; high = h; step = s; scale = λ k. 1 }

-- a current's row: it grows with k, and stands as for 1 A
abbrev row_i : ℕ → ℕ → ℕ → ℕ → ℕ → Row
row_i a b l h s = record { first = a; last = b; low = l; high = h; step = s; scale = λ k. k }

-- an impedance's row: it shrinks with k, and stands as for 5 A
abbrev row_z : ℕ → ℕ → ℕ → ℕ → ℕ → Row
row_z a b l h s = record { first = a; last = b; low = l; high = h; step = s; scale = λ k. 5 / k }

-- slots, low–high, step, in the paper's order
abbrev pub rows : List Row
rows =
    -- in service
    row 0 0 0 1 1 ∷
    -- module
    row 1 1 0 1 1 ∷
    -- section needs load current
    row 2 2 0 1 1 ∷
    -- compensation; 02, ticket 3: "slot 3 takes 2"
    row 3 3 0 2 1 ∷
    -- its current
    row 4 4 0 3 1 ∷
    -- tap from
    row 5 5 0 4 1 ∷
    -- organs on
    row 6 12 0 1 1 ∷
    -- current, voltage organs
    row 13 14 0 1 1 ∷
    -- block at end tap
    row 15 15 0 1 1 ∷
    -- supply trip
    row 16 16 0 1 1 ∷
    -- wear count on
    row 17 17 0 1 1 ∷
    -- organs block manual
    row 18 18 0 1 1 ∷
    -- U_supp 1–4
    row 19 22 80000 140000 100 ∷
    -- dU, U_comp
    row 23 24 1000 40000 100 ∷
    -- I_set1, 2
    row_i 25 26 100 40000 1 ∷
    -- I_set3
    row_i 27 27 50 5000 1 ∷
    -- U_set1, U_set5
    row 28 28 5000 200000 100 ∷
    row 32 32 5000 200000 100 ∷
    -- U_set2
    row 29 29 5000 100000 100 ∷
    -- U_set3, 4
    row 30 30 2000 100000 100 ∷
    row 31 31 2000 60000 100 ∷
    -- T1–T5
    row 33 37 20 36000 1 ∷
    -- T6, T7
    row 38 39 0 36000 1 ∷
    -- T8
    row 40 40 20 2000 1 ∷
    -- T9–T15
    row 41 47 0 36000 1 ∷
    -- N_pos, N_R, N_L
    row 48 50 1 40 1 ∷
    -- N_start, N_max
    row 51 51 0 499999 1 ∷
    row 52 52 1 500000 1 ∷
    -- sliding taps
    row 53 62 0 40 1 ∷
    -- 02, ticket 2: continuous regulation
    row 63 63 0 1 1 ∷
    -- 02, ticket 3: "R and X in mΩ, 0–80,000 with 5 A, 0–400,000 with 1 A"
    row_z 64 65 0 80000 1 ∷
    -- 02, ticket 5: "the transformer's and the breaker's primary rating, 1–20,000 A"
    row 66 67 1 20000 1 ∷
    []

-- a delay's most, 180 s in ticks
abbrev pub most_ticks : ℕ
most_ticks = 36000

-- the highest tap
abbrev pub most_tap : ℕ
most_tap = 40

-- the row that has the slot; 0–0 for what is no slot
unfoldable pub row_in : List Row → ℕ → Row
row_in [] i = row 0 0 0 0 1
row_in (r ∷ rs) i = choose (leb r.first i && leb i r.last) r (row_in rs i)

unfoldable pub row_of : ℕ → Row
row_of i = row_in rows i

-- k: 5 if slot 1 is 1, the 5 A module, else 1
unfoldable pub module_factor : List ℕ → ℕ
module_factor s = choose (eqb (slot s module_kind) 1) 5 1

-- what the slot's low and high are times: k for a current, 5 ÷ k for an impedance, else 1
unfoldable pub factor_of : ℕ → ℕ → ℕ
factor_of k i = (row_of i).scale k

unfoldable pub low_of : ℕ → ℕ → ℕ
low_of k i = (row_of i).low * factor_of k i

unfoldable pub high_of : ℕ → ℕ → ℕ
high_of k i = (row_of i).high * factor_of k i

unfoldable pub step_of : ℕ → ℕ
step_of i = (row_of i).step

-- 'a taken number is low + a whole multiple of the step, up to high'
unfoldable pub taken_by : ℕ → ℕ → ℕ → ℕ → Bool
taken_by low high step x = leb low x && (leb x high && eqb ((x - low) % step) 0)

unfoldable pub taken_of : ℕ → ℕ → ℕ → Bool
taken_of k i x = taken_by (low_of k i) (high_of k i) (step_of i) x

-- the same, with the multiple named
abbrev pub Taking : ℕ → ℕ → ℕ → Type 0
Taking k i x = (n : ℕ) × (x ≡ low_of k i + n * step_of i) × (x ≤ high_of k i)
