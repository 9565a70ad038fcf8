-- A number against its range, case by case, and the lowest number at which a test fails.
-- Assumes nothing.
use mathlib.Core.Path.{◌≡◌, refl, sym, ◌∙◌, ap}
use mathlib.Core.Bool.{Bool, true, false, ◌||◌}
use mathlib.Core.Logic.{⊎_elim}
use Prim.Native.Nat.{ℕ, zero, suc, ◌+◌, ◌-◌, ◌*◌, ◌/◌, ◌%◌, ◌<◌, ◌≤◌}
use native.Mathlib.Nat.{div-add-mod', mul-mod_left, mod-one, eq-or-lt_of_le}
use native.Mathlib.Omega.{arith}
use lib.Dec.{leb, eqb}
use borrow.Author.Tests.{leb-true, le-leb, lt-leb, eqb-true, eq-eqb, ne_eqb}
use Rattle.common.proofs.Cases.{yes, no}
use Rattle.common.proofs.Joined.{and_left, and_right, and_both}
use Rattle.sheet_ranges.specs.Table.{low_of, high_of, step_of, taken_of, taken_by, Taking}
use Rattle.sheet_ranges.specs.Ranges.{first_from}

-- a number against a range
module _ (l h d x : ℕ) where
  pub too_low : x < l → false ≡ taken_by l h d x
  unfolding taken_by
  too_low t = rw (lt-leb l x t)

  module _ (a : l ≤ x) where
    pub too_high : h < x → false ≡ taken_by l h d x
    unfolding taken_by
    too_high t = rw (le-leb l x a, lt-leb x h t)

    module _ (b : x ≤ h) where
      pub by_one : d ≡ 1 → true ≡ taken_by l h d x
      unfolding taken_by
      by_one e = rw (le-leb l x a, le-leb x h b, e, mod-one (x - l))

      pub by_hundred : (d ≡ 1 → ⊥) → (eqb d 1 || eqb d 100) ≡ true → eqb ((x - l) % 100) 0 ≡ taken_by l h d x
      unfolding taken_by
      by_hundred n e =
          let f : d ≡ 100 = eqb-true d 100 (rw (ne_eqb d 1 n) at e) in
          rw (le-leb l x a, le-leb x h b, f)

-- a number that the test takes is low + a whole multiple of the step, up to high, and no other is
module _ (k i x : ℕ) where
  pub taken_taking : taken_of k i x ≡ true → Taking k i x
  unfolding taken_of taken_by
  taken_taking e =
      let l : low_of k i ≤ x = leb-true _ _ (and_left _ _ e) in
      let r = and_right (leb (low_of k i) x) _ e in
      let m : (x - low_of k i) % step_of i ≡ 0 = eqb-true _ _ (and_right (leb x (high_of k i)) _ r) in
      let d : (x - low_of k i) / step_of i * step_of i + (x - low_of k i) % step_of i ≡ x - low_of k i = div-add-mod' (x - low_of k i) (step_of i) in
      ((x - low_of k i) / step_of i, omega arith, leb-true _ _ (and_left _ _ r))

  pub taking_taken : Taking k i x → taken_of k i x ≡ true
  unfolding taken_of taken_by
  taking_taken t =
      let n = t.0 in
      let e : x ≡ low_of k i + n * step_of i = t.1 in
      let l : low_of k i ≤ x = omega arith in
      let d : x - low_of k i ≡ n * step_of i = omega arith in
      let m : (x - low_of k i) % step_of i ≡ 0 = rw d (mul-mod_left n (step_of i)) in
      and_both _ _ (le-leb _ _ l) (and_both _ _ (le-leb _ _ t.2) (eq-eqb _ _ m))

-- below the lowest number at which a test fails it holds, and where it holds at all n numbers there is none
module _ (f : ℕ → Bool) where
  on : (n i : ℕ) → f i ≡ true → first_from f (suc n) i ≡ first_from f n (suc i)
  unfolding first_from
  on n i e = sym (yes _ _ _ _ e refl)

  off : (n i : ℕ) → f i ≡ false → first_from f (suc n) i ≡ i
  unfolding first_from
  off n i e = sym (no _ _ _ _ e refl)

  pub holds_below : (n i j : ℕ) → i ≤ j → j < first_from f n i → f j ≡ true
  unfolding first_from
  holds_below zero i j h l = absurd (omega arith)
  holds_below (suc n) i j h l = go (f i) refl (holds_below n (suc i) j)
    where
      go : (b : Bool) → f i ≡ b → (suc i ≤ j → j < first_from f n (suc i) → f j ≡ true) → f j ≡ true
      go true e rest =
          ⊎_elim (λ (p : i ≡ j). ap f (sym p) ∙ e) (λ (p : i < j). rest p (rw (on n i e) at l)) (eq-or-lt_of_le h)
      go false e rest = absurd (let z : first_from f (suc n) i ≡ i = off n i e in omega arith)

  pub holds_at_all : (n i : ℕ) → ((j : ℕ) → i ≤ j → j < i + n → f j ≡ true) → first_from f n i ≡ i + n
  unfolding first_from
  holds_at_all zero i h = omega arith
  holds_at_all (suc n) i h =
      on n i (h i (omega arith) (omega arith)) ∙ holds_at_all n (suc i) (λ j p q. h j (omega arith) (omega arith)) ∙ omega arith
