-- What holds of settings that pass, for the crates that use them.
-- Assumes nothing.
use mathlib.Core.Path.{◌≡◌, refl, sym, ◌∙◌, ap}
use mathlib.Core.Bool.{Bool, true, ◌&&◌, true≢false}
use mathlib.Core.List.{List}
use Prim.Native.Nat.{ℕ, ◌+◌, ◌*◌, ◌<◌, ◌≤◌}
use native.Mathlib.Nat.{le_trans}
use native.Mathlib.Omega.{arith}
use lib.Dec.{leb, ltb}
use borrow.Author.Tests.{leb-true, ltb-true}
use Rattle.common.specs.Choice.{choose}
use Rattle.slots.specs.Slots.{slot, resistance, reactance, ct_rating, breaker_rating, t1, t2, t3, t4, t5, t6, t7, t8, organ_delays, organ_limits, u_supp, d_u, u_comp, u_set5, n_pos, n_r, n_l, n_start, n_max, sliding_taps, slots}
use Rattle.sheet_ranges.specs.Table.{Row, most_ticks, most_tap, row_of, row_in, module_factor, factor_of, low_of, high_of, taken_of, taken_by}
use Rattle.sheet_ranges.specs.Ranges.{taken_in}
use Rattle.sheet.specs.Sheet.{is_taken, judge_of, passes_of, answer_of}
use Rattle.std.specs.Prelude.{Result, Ok, Err}
use Rattle.sheet.specs.declared.Refusal.{Refusal}
use Rattle.common.proofs.Joined.{and_left, and_right}
use Rattle.sheet_ranges.proofs.Every.{all_below, every}
use Rattle.sheet_ranges.proofs.Tables.{with_module}
use Rattle.sheet.proofs.Exact.{Kept, judged_kept, exact}
use Rattle.sheet.proofs.Answers.{answer_right}

is_taken_lem : (a : Result (Unit {0}) Refusal) → is_taken a ≡ true → a ≡ Ok tt
is_taken_lem (Ok u) e = refl
is_taken_lem (Err r) e = absurd (true≢false (sym e))

-- to pass is to be judged as taken, and a list that is taken passes
module _ (s : List ℕ) where
  pub pass_judged : passes_of s ≡ true → judge_of s ≡ Ok tt
  unfolding passes_of
  pass_judged e = is_taken_lem (judge_of s) e

  pub judged_pass : judge_of s ≡ Ok tt → passes_of s ≡ true
  unfolding passes_of
  judged_pass e = ap is_taken e

  pub taken_pass : answer_of s ≡ Ok tt → passes_of s ≡ true
  taken_pass e = judged_pass (sym (answer_right s ((exact s).0 e).size) ∙ e)

-- whether all that a row takes, by k, is within l to h
abbrev row_within : ℕ → ℕ → Row → ℕ → Bool
row_within l h r k = leb l (r.low * r.scale k) && leb (r.high * r.scale k) h

-- whether slot i is one, and its row is within l to h with either module
abbrev pub slot_within : ℕ → ℕ → ℕ → Bool
slot_within l h i = ltb i slots && (row_within l h (row_of i) 1 && row_within l h (row_of i) 5)

module _ (s : List ℕ) (e : passes_of s ≡ true) where
  kept : Kept s
  kept = judged_kept s (pass_judged s e)

  -- each slot is within its row
  pub in_range_lem : (i : ℕ) → i < slots → (low_of (module_factor s) i ≤ slot s i) × (slot s i ≤ high_of (module_factor s) i)
  unfolding taken_in taken_of taken_by
  in_range_lem i h =
      let t = kept.ranges i h in
      (leb-true _ _ (and_left _ _ t), leb-true _ _ (and_left _ _ (and_right (leb (low_of (module_factor s) i) (slot s i)) _ t)))

  -- and so within bounds that hold with either module
  pub in_row : (l h i : ℕ) → slot_within l h i ≡ true → (l ≤ slot s i) × (slot s i ≤ h)
  unfolding low_of high_of factor_of
  in_row l h i t =
      let r = in_range_lem i (ltb-true _ _ (and_left _ _ t)) in
      let b = and_right (ltb i slots) _ t in
      let w = with_module (λ k. row_within l h (row_of i) k ≡ true) (and_left _ _ b) (and_right (row_within l h (row_of i) 1) _ b) s refl in
      (le_trans (leb-true _ _ (and_left _ _ w)) r.0, le_trans r.1 (leb-true _ _ (and_right (leb l (low_of (module_factor s) i)) _ w)))

  -- the n slots from a are all within l to h, where antt computes that their rows are
  pub in_run : (a n l h : ℕ) → all_below (λ (j : ℕ). slot_within l h (a + j)) n ≡ true → (j : ℕ) → j < n
      → (l ≤ slot s (a + j)) × (slot s (a + j) ≤ h)
  in_run a n l h t j p = in_row l h (a + j) (every (λ (j : ℕ). slot_within l h (a + j)) n t j p)

  -- T1–T5
  pub t1_range : (20 ≤ slot s t1) × (slot s t1 ≤ most_ticks)
  unfolding row_of row_in choose
  t1_range = in_run t1 1 20 most_ticks refl 0 (omega arith)

  pub t2_range : (20 ≤ slot s t2) × (slot s t2 ≤ most_ticks)
  unfolding row_of row_in choose
  t2_range = in_run t2 1 20 most_ticks refl 0 (omega arith)

  pub t3_range : (20 ≤ slot s t3) × (slot s t3 ≤ most_ticks)
  unfolding row_of row_in choose
  t3_range = in_run t3 1 20 most_ticks refl 0 (omega arith)

  pub t4_range : (20 ≤ slot s t4) × (slot s t4 ≤ most_ticks)
  unfolding row_of row_in choose
  t4_range = in_run t4 1 20 most_ticks refl 0 (omega arith)

  pub t5_range : (20 ≤ slot s t5) × (slot s t5 ≤ most_ticks)
  unfolding row_of row_in choose
  t5_range = in_run t5 1 20 most_ticks refl 0 (omega arith)

  -- T6, T7
  pub t6_most : slot s t6 ≤ most_ticks
  unfolding row_of row_in choose
  t6_most = (in_run t6 1 0 most_ticks refl 0 (omega arith)).1

  pub t7_most : slot s t7 ≤ most_ticks
  unfolding row_of row_in choose
  t7_most = (in_run t7 1 0 most_ticks refl 0 (omega arith)).1

  pub t8_range : (20 ≤ slot s t8) × (slot s t8 ≤ 2000)
  unfolding row_of row_in choose
  t8_range = in_run t8 1 20 2000 refl 0 (omega arith)

  -- T9–T15
  pub delay_most : (j : ℕ) → j < 7 → slot s (organ_delays + j) ≤ most_ticks
  unfolding row_of row_in choose
  delay_most j h = (in_run organ_delays 7 0 most_ticks refl j h).1

  -- I_set1 to 3, U_set1 to 4
  pub limit_range : (j : ℕ) → j < 7 → (50 ≤ slot s (organ_limits + j)) × (slot s (organ_limits + j) ≤ 200000)
  unfolding row_of row_in choose
  limit_range j h = in_run organ_limits 7 50 200000 refl j h

  pub u_set5_range : (5000 ≤ slot s u_set5) × (slot s u_set5 ≤ 200000)
  unfolding row_of row_in choose
  u_set5_range = in_run u_set5 1 5000 200000 refl 0 (omega arith)

  pub u_supp_range : (j : ℕ) → j < 4 → (80000 ≤ slot s (u_supp + j)) × (slot s (u_supp + j) ≤ 140000)
  unfolding row_of row_in choose
  u_supp_range j h = in_run u_supp 4 80000 140000 refl j h

  pub d_u_range : (1000 ≤ slot s d_u) × (slot s d_u ≤ 40000)
  unfolding row_of row_in choose
  d_u_range = in_run d_u 1 1000 40000 refl 0 (omega arith)

  pub u_comp_range : (1000 ≤ slot s u_comp) × (slot s u_comp ≤ 40000)
  unfolding row_of row_in choose
  u_comp_range = in_run u_comp 1 1000 40000 refl 0 (omega arith)

  pub n_start_most : slot s n_start ≤ 499999
  unfolding row_of row_in choose
  n_start_most = (in_run n_start 1 0 499999 refl 0 (omega arith)).1

  pub n_max_range : (1 ≤ slot s n_max) × (slot s n_max ≤ 500000)
  unfolding row_of row_in choose
  n_max_range = in_run n_max 1 1 500000 refl 0 (omega arith)

  pub sliding_most : (j : ℕ) → j < 10 → slot s (sliding_taps + j) ≤ most_tap
  unfolding row_of row_in choose
  sliding_most j h = (in_run sliding_taps 10 0 most_tap refl j h).1

  -- R and X
  pub resistance_most : slot s resistance ≤ 400000
  unfolding row_of row_in choose
  resistance_most = (in_run resistance 1 0 400000 refl 0 (omega arith)).1

  pub reactance_most : slot s reactance ≤ 400000
  unfolding row_of row_in choose
  reactance_most = (in_run reactance 1 0 400000 refl 0 (omega arith)).1

  -- the ratings
  pub ct_range : (1 ≤ slot s ct_rating) × (slot s ct_rating ≤ 20000)
  unfolding row_of row_in choose
  ct_range = in_run ct_rating 1 1 20000 refl 0 (omega arith)

  pub breaker_range : (1 ≤ slot s breaker_rating) × (slot s breaker_rating ≤ 20000)
  unfolding row_of row_in choose
  breaker_range = in_run breaker_rating 1 1 20000 refl 0 (omega arith)

  -- 1 ≤ N_L < N_R ≤ 40, and N_pos within
  pub taps_range : (1 ≤ slot s n_l) × (slot s n_l < slot s n_r) × (slot s n_r ≤ most_tap) × (slot s n_l ≤ slot s n_pos) × (slot s n_pos ≤ slot s n_r)
  unfolding row_of row_in choose
  taps_range =
      ((in_run n_l 1 1 most_tap refl 0 (omega arith)).0, kept.ends, (in_run n_r 1 1 most_tap refl 0 (omega arith)).1, kept.above, kept.below)
