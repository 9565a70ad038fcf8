-- A list is taken exactly if it is what the settings must be.
-- Assumes nothing.
use mathlib.Core.Path.{◌≡◌, refl, sym, ◌∙◌, ap}
use mathlib.Core.Bool.{Bool, true, false, ◌||◌, true≢false}
use mathlib.Core.Logic.{◌⊎◌, inl, inr, ◌↔◌, ⊎_elim}
use mathlib.Core.List.{List}
use Prim.Native.Nat.{ℕ, ◌<◌, ◌≤◌}
use native.Mathlib.Omega.{arith}
use lib.Dec.{leb, eqb}
use borrow.Author.Tests.{ltb-false, leb-true, leb-false, le-leb, eqb-true, eq-eqb, not-false}
use Rattle.common.specs.Choice.{choose}
use Rattle.slots.specs.Slots.{slot, tap_source, n_pos, n_r, n_l, continuous, is_continuous, slots}
use Rattle.sheet_ranges.specs.Ranges.{taken_in, first_out_of_range}
use Rattle.sheet_ranges.proofs.Numbers.{taken_taking, taking_taken, holds_below, holds_at_all}
use Rattle.sheet.specs.Sheet.{counted_tap, judge_of, answer_of, sheet_with, sheet_of, reply_of, returned_of}
use Rattle.sheet.specs.Settings.{Settings}
use Rattle.std.specs.Prelude.{Result, Ok, Err, IsOk}
use Rattle.sheet.specs.declared.Refusal.{Refusal}
use Rattle.common.proofs.Joined.{split, and_left, and_right, and_both, or_true, or_is}
use Rattle.sheet.proofs.Answers.{within, answer_right, not_refused, returned}

-- what a choice gives, where it does not give the first, is the second
passed_by : {A : Type 0} (b : Bool) (x y z : A) → choose b x y ≡ z → (x ≡ z → ⊥) → (b ≡ false) × (y ≡ z)
unfolding choose
passed_by true x y z e d = absurd (d e)
passed_by false x y z e d = (refl, e)

-- a refusal is no list that is taken
not_taken : {r : Refusal} → ◌≡◌ {A = Result (Unit {0}) Refusal} (Err r) (Ok tt) → ⊥
not_taken e = cc

-- the cause of refusal 5, as the test has it and as the paper says it
abbrev Counted : List ℕ → Type 0
Counted s = slot s continuous ≡ 1 → (slot s tap_source ≡ 3) ⊎ (slot s tap_source ≡ 4) → ⊥

no_count : (s : List ℕ) → counted_tap s ≡ false → Counted s
no_count s e c t = true≢false (sym (and_both (is_continuous s) _ (eq-eqb _ _ c) (either_is t)) ∙ e)
  where
    either_is : (slot s tap_source ≡ 3) ⊎ (slot s tap_source ≡ 4) → (eqb (slot s tap_source) 3 || eqb (slot s tap_source) 4) ≡ true
    either_is (inl a) = rw (eq-eqb _ _ a)
    either_is (inr b) = rw (eq-eqb _ _ b) (or_true (eqb (slot s tap_source) 3))

count_no : (s : List ℕ) → Counted s → counted_tap s ≡ false
count_no s n =
    ⊎_elim
    (λ t.
    absurd
    (n (eqb-true _ _ (and_left _ _ t))
    (⊎_elim (λ a. inl (eqb-true _ _ a)) (λ b. inr (eqb-true _ _ b)) (or_is (eqb (slot s tap_source) 3) _ (and_right (is_continuous s) _ t)))))
    (λ f. f)
    (split (counted_tap s))

-- what a list that is judged as taken keeps to
pub record Kept (s : List ℕ) : Type 0 where
  pub ranges : (i : ℕ) → i < slots → taken_in s i ≡ true
  pub ends : slot s n_l < slot s n_r
  pub above : slot s n_l ≤ slot s n_pos
  pub below : slot s n_pos ≤ slot s n_r
  pub counted : Counted s

module _ (s : List ℕ) where
  pub judged_kept : judge_of s ≡ Ok tt → Kept s
  unfolding judge_of first_out_of_range
  judged_kept e =
      let a = passed_by _ _ _ _ e not_taken in
      let n : slots ≤ first_out_of_range s = ltb-false _ _ a.0 in
      let b = passed_by _ _ _ _ a.1 not_taken in
      let d = passed_by _ _ _ _ b.1 not_taken in
      let c : within s ≡ true = not-false _ d.0 in
      record {
        ranges = λ i h. holds_below (taken_in s) slots 0 i (omega arith) (omega (arith, n));
        ends = leb-false _ _ b.0;
        above = leb-true _ _ (and_left _ _ c);
        below = leb-true _ _ (and_right (leb (slot s n_l) (slot s n_pos)) _ c);
        counted = no_count s (passed_by _ _ _ _ d.1 not_taken).0;
      }

  pub kept_judged : Kept s → judge_of s ≡ Ok tt
  unfolding first_out_of_range
  kept_judged k =
      sym
      (not_refused s refl
      (omega (arith, holds_at_all (taken_in s) slots 0 (λ j p q. k.ranges j (omega arith))))
      k.ends
      (and_both _ _ (le-leb _ _ k.above) (le-leb _ _ k.below))
      (count_no s k.counted))

  taken_settings : answer_of s ≡ Ok tt → Settings s
  unfolding answer_of taken_in
  taken_settings e =
      let a = passed_by _ _ _ _ e not_taken in
      let k = judged_kept a.1 in
      record {
        size = eqb-true _ _ (not-false _ a.0);
        ranges = λ i h. taken_taking _ _ _ (k.ranges i h);
        ends = k.ends;
        above = k.above;
        below = k.below;
        counted = k.counted;
      }

  settings_taken : Settings s → answer_of s ≡ Ok tt
  unfolding taken_in
  settings_taken t =
      answer_right s t.size
      ∙ kept_judged (record { ranges = λ i h. taking_taken _ _ _ (t.ranges i h); ends = t.ends; above = t.above; below = t.below; counted = t.counted })

  pub exact : (answer_of s ≡ Ok tt) ↔ Settings s
  exact = (taken_settings, settings_taken)

  ok_taken : (a : Result (Unit {0}) Refusal) → IsOk (sheet_with a s) → a ≡ Ok tt
  ok_taken (Ok u) h = refl
  ok_taken (Err e) h = absurd (true≢false (sym h))

  taken_ok : (a : Result (Unit {0}) Refusal) → a ≡ Ok tt → IsOk (sheet_with a s)
  taken_ok a p = rw p refl

  -- all that the check of a list promises
  pub checked : {r : Result (List ℕ) Refusal} → r ≡ sheet_of s → (r ≡ sheet_of s) × ((reply_of r ≡ returned_of s) × (IsOk r ↔ Settings s))
  unfolding sheet_of
  checked e = (e, (ap reply_of e ∙ returned s, ((λ h. exact.0 (ok_taken _ (rw e at h))), (λ t. rw e (taken_ok _ (exact.1 t))))))
