-- The drop by U_comp and the ratings (02, ticket 5), for every U_comp, current, module and rating.
-- Assumes nothing.
use mathlib.Core.Path.{◌≡◌, refl, sym, ap, ◌∙◌}
use mathlib.Core.Bool.{true}
use mathlib.Core.List.{List}
use Prim.Native.Nat.{ℕ, ◌*◌, ◌<◌}
use borrow.Author.Tests.{le-leb}
use lib.IntN.{ℤ, pos, ◌*ℤ◌}
use Rattle.common.proofs.Cases.{yes}
use Rattle.common.proofs.Joined.{and_both}
use Rattle.common.proofs.Signed.{quot_cancel}
use Rattle.slots.specs.Slots.{slot, u_comp, ct_rating, breaker_rating}
use Rattle.sheet_ranges.specs.Table.{module_factor}
use Rattle.sheet_ranges.proofs.Tables.{factor_ge}
use Rattle.sheet.specs.Sheet.{passes_of}
use Rattle.sheet.proofs.Laws.{u_comp_range, ct_range, breaker_range}
use Rattle.busbar_compensation.specs.Voltage.{drop_of, module_drop, is_rating, is_rated, voltage_drop}
use Rattle.std.specs.Prelude.{Some}
use Rattle.busbar_compensation.proofs.Drops.{divisor_positive, breaker_rated}

-- "01's case stands for equal ratings"
pub equal_ratings : (comp : ℕ) (i : ℤ) (k n : ℕ) → 0 < n → drop_of comp i k n n ≡ module_drop comp i k
unfolding drop_of module_drop
equal_ratings comp i k n h = quot_cancel (pos comp *ℤ i) (1000 * k) n h

module _ (s : List ℕ) (e : passes_of s ≡ true) where
  pub taken_rated : is_rated s ≡ true
  unfolding is_rated is_rating
  taken_rated =
      let c = u_comp_range s e in
      let t = ct_range s e in
      let b = breaker_range s e in
      and_both _ _ (le-leb _ _ c.1) (and_both _ _ (and_both _ _ (le-leb _ _ t.0) (le-leb _ _ t.1)) (and_both _ _ (le-leb _ _ b.0) (le-leb _ _ b.1)))

  -- the divisor is never 0
  pub taken_divisor : 0 < 1000 * module_factor s * slot s breaker_rating
  taken_divisor = divisor_positive (module_factor s) (slot s breaker_rating) (breaker_rated s true (sym taken_rated) refl) (factor_ge s refl)

  module _ (i : ℤ) where
    -- so the drop is there, and the paper's
    pub taken_drop : voltage_drop s (Some i) ≡ Some (drop_of (slot s u_comp) i (module_factor s) (slot s ct_rating) (slot s breaker_rating))
    unfolding voltage_drop
    taken_drop = sym (yes _ _ _ (is_rated s) taken_rated refl)

    -- and 01's where the ratings are equal
    pub module_drop_lem : slot s ct_rating ≡ slot s breaker_rating → voltage_drop s (Some i) ≡ Some (module_drop (slot s u_comp) i (module_factor s))
    module_drop_lem q =
        taken_drop
        ∙ ap (λ (n : ℕ). Some (drop_of (slot s u_comp) i (module_factor s) n (slot s breaker_rating))) q
        ∙ ap Some (equal_ratings (slot s u_comp) i (module_factor s) (slot s breaker_rating) (breaker_range s e).0)
