-- For callers: a voltage is low or high exactly by the paper's test.
-- Assumes nothing.
use mathlib.Core.Path.{◌≡◌, refl, sym, subst}
use mathlib.Core.Bool.{Bool, true, false, cond}
use Prim.Native.Nat.{ℕ, zero, suc, ◌+◌, ◌-◌, ◌*◌, ◌<◌}
use native.Mathlib.Omega.{arith}
use borrow.Author.Tests.{lt-ltb}
use lib.Dec.{T, ltb}
use lib.IntN.{ℤ, pos, negsuc, ◌+ℤ◌, ◌-ℤ◌, ◌*ℤ◌}
use lib.Signed.{lt_z, ◌<ℤ◌, le_z_yes, lt_z_yes, <ℤ-≤ℤ_trans, clash_ℤ}
use Rattle.common.proofs.Cases.{yes, no}
use Rattle.busbar_deviation.specs.Deviation.{low_of, high_of, band_of}
use Rattle.busbar_level.specs.declared.Level.TheVariants.{Low, InBand, High}

-- the lower edge is below the upper one
edges : (m d : ℕ) → 0 < d → (pos m -ℤ pos d) <ℤ (pos m +ℤ pos d)
edges m zero h = absurd (omega arith)
edges m (suc d) h = lt_z_yes (subst T (sym (go (ltb m (suc d)))) tt)
  where
    go : (t : Bool) → lt_z (cond t (negsuc (suc d - suc m)) (pos (m - suc d))) (pos (m + suc d)) ≡ true
    go true = refl
    go false = lt-ltb (m - suc d) (m + suc d) (omega arith)

module _ (u : ℤ) (supp d : ℕ) where
  pub low_is : low_of u supp d ≡ true → band_of u supp d ≡ Low
  unfolding band_of
  low_is e = sym (yes Low _ _ (low_of u supp d) e refl)

  -- never both: with a dU above 0, no voltage is low and high
  pub not_both : 0 < d → low_of u supp d ≡ true → high_of u supp d ≡ true → ⊥
  unfolding low_of high_of
  not_both h l g =
      clash_ℤ {b = pos 2 *ℤ u} (<ℤ-≤ℤ_trans (edges (2 * supp) d h) (le_z_yes (subst T (sym g) tt))) (le_z_yes (subst T (sym l) tt))

  pub high_is : 0 < d → high_of u supp d ≡ true → band_of u supp d ≡ High
  unfolding band_of
  high_is h g = go (low_of u supp d) refl
    where
      go : (t : Bool) → low_of u supp d ≡ t → band_of u supp d ≡ High
      go true e = absurd (not_both h e g)
      go false e = sym (no High _ _ (low_of u supp d) e (yes High _ _ (high_of u supp d) g refl))

  pub in_band_is : low_of u supp d ≡ false → high_of u supp d ≡ false → band_of u supp d ≡ InBand
  unfolding band_of
  in_band_is e f = sym (no InBand _ _ (low_of u supp d) e (no InBand _ _ (high_of u supp d) f refl))
