-- The constant tables are the columns of the paper's rows, scaled by k, and no product of theirs wraps. antt computes it at
-- each slot, for both modules.
-- Assumes nothing.
use mathlib.Core.Path.{◌≡◌, refl}
use mathlib.Core.Bool.{Bool, true, ◌||◌}
use mathlib.Core.List.{List}
use Prim.Native.Nat.{ℕ, ◌*◌, ◌/◌, ◌≤◌, ◌<◌}
use native.Mathlib.Nat.{mul-le-mul, div-le_self, le_trans}
use native.Mathlib.Omega.{arith}
use lib.ListN.{get_or}
use lib.Dec.{eqb}
use borrow.Author.Tests.{eqb-true}
use mir.Val.{Fits}
use mir.Syntax.{w32}
use mir.Facts.{Fits-le, Fits-lit}
use Rattle.slots.specs.Slots.{slots}
use Rattle.common.specs.Choice.{choose}
use Rattle.common.proofs.Cases.{chosen}
use Rattle.sheet_ranges.specs.Table.{row_of, row_in, module_factor, factor_of, low_of, high_of, step_of}
use Rattle.sheet_ranges.specs.Columns.{most_current, most_impedance, low_column, high_column, step_column, times_k}
use Rattle.sheet_ranges.proofs.Every.{every}

-- k is 1 or 5: what holds with both holds with the sheet's
module _ (P : ℕ → Type 0) (one : P 1) (five : P 5) (s : List ℕ) where
  pub with_module : {k : ℕ} → k ≡ module_factor s → P k
  unfolding module_factor
  with_module e = rw e (chosen P _ 5 1 (λ t. five) (λ t. one))

pub factor_ge : (s : List ℕ) {k : ℕ} → k ≡ module_factor s → 1 ≤ k
factor_ge s = with_module (λ k. 1 ≤ k) (omega arith) (omega arith) s

pub factor_le : (s : List ℕ) {k : ℕ} → k ≡ module_factor s → k ≤ 5
factor_le s = with_module (λ k. k ≤ 5) (omega arith) (omega arith) s

-- a number of a current row times k fits
pub times_fits : {n k : ℕ} → n ≤ most_current → k ≤ 5 → Fits w32 (n * k)
times_fits p q = Fits-le {n = most_current * 5} (mul-le-mul p q) (Fits-lit tt)

-- and of an impedance row times m ÷ k
pub inverse_fits : {n m : ℕ} (k : ℕ) → n ≤ most_impedance → m ≤ 5 → Fits w32 (n * (m / k))
inverse_fits {m = m} k p q = Fits-le {n = most_impedance * 5} (mul-le-mul p (le_trans (div-le_self m k) q)) (Fits-lit tt)

-- the columns of a list's ranges, at every slot
pub record Columns (s : List ℕ) (lows highs steps : List ℕ) : Type 0 where
  pub low : (i : ℕ) → i < slots → get_or lows i 0 ≡ low_of (module_factor s) i
  pub high : (i : ℕ) → i < slots → get_or highs i 0 ≡ high_of (module_factor s) i
  pub step : (i : ℕ) → i < slots → get_or steps i 0 ≡ step_of i

abbrev low_at_lem : ℕ → ℕ → Bool
low_at_lem k i = eqb (get_or (times_k k low_column) i 0) (low_of k i)

abbrev high_at_lem : ℕ → ℕ → Bool
high_at_lem k i = eqb (get_or (times_k k high_column) i 0) (high_of k i)

module _ (i : ℕ) (h : i < slots) where
  lows_at : (low_at_lem 1 i ≡ true) × (low_at_lem 5 i ≡ true)
  unfolding times_k low_column low_of factor_of row_of row_in choose
  lows_at = (every (low_at_lem 1) slots refl i h, every (low_at_lem 5) slots refl i h)

  highs_at : (high_at_lem 1 i ≡ true) × (high_at_lem 5 i ≡ true)
  unfolding times_k high_column high_of factor_of row_of row_in choose
  highs_at = (every (high_at_lem 1) slots refl i h, every (high_at_lem 5) slots refl i h)

  steps_at : get_or step_column i 0 ≡ step_of i
  unfolding step_column step_of row_of row_in choose
  steps_at = eqb-true _ _ (every (λ (j : ℕ). eqb (get_or step_column j 0) (step_of j)) slots refl i h)

  module _ (s : List ℕ) where
    low_at : get_or (times_k (module_factor s) low_column) i 0 ≡ low_of (module_factor s) i
    low_at = eqb-true _ _ (with_module (λ k. low_at_lem k i ≡ true) lows_at.0 lows_at.1 s refl)

    high_at : get_or (times_k (module_factor s) high_column) i 0 ≡ high_of (module_factor s) i
    high_at = eqb-true _ _ (with_module (λ k. high_at_lem k i ≡ true) highs_at.0 highs_at.1 s refl)

pub columns : (s : List ℕ) {k : ℕ} {lows highs steps : List ℕ} → k ≡ module_factor s → lows ≡ times_k k low_column → highs ≡ times_k k high_column
    → steps ≡ step_column → Columns s lows highs steps
columns s m l u d = record { low = λ i h. rw (l, m) (low_at i h s); high = λ i h. rw (u, m) (high_at i h s); step = λ i h. rw d (steps_at i h) }

-- a step is 1 or 100
pub step_kind : (s : List ℕ) {i : ℕ} {lows highs steps : List ℕ} → Columns s lows highs steps → i < slots
    → (eqb (get_or steps i 0) 1 || eqb (get_or steps i 0) 100) ≡ true
unfolding step_of row_of row_in choose
step_kind s {i} c h = rw (c.step i h) (every (λ (j : ℕ). eqb (step_of j) 1 || eqb (step_of j) 100) slots refl i h)
