-- The numbers of a band's edges as the code has them, and the level that follows from the tests: `search bands`.
-- Assumes nothing.
use mathlib.Core.Path.{◌≡◌, refl, sym, ap, ◌∙◌}
use mathlib.Core.Bool.{Bool, true, false, not}
use Prim.Native.Nat.{ℕ, ◌+◌, ◌*◌, ◌<◌, ◌≤◌, ◌^◌}
use native.Mathlib.Nat.{le_refl, lt_of_le_of_lt}
use borrow.Author.Rules.{rules}
use lib.IntN.{ℤ, pos, ◌+ℤ◌, ◌-ℤ◌, ◌*ℤ◌}
use lib.Signed.{le_z, shr_z, mag_shr}
use mir.Syntax.{w64}
use mir.Val.{SFits, to_z}
use mir.Facts.{to_z-of_z}
use Rattle.common.proofs.Cases.{yes, no}
use Rattle.busbar_deviation.specs.Deviation.{low_of, high_of, band_of}
use Rattle.busbar_level.specs.declared.Level.TheVariants.{Low, InBand, High}
use Rattle.common.proofs.Signed.{Stands, exactly, literal, fits, read, back, cast, add, sub, mul}
use Rattle.busbar_deviation.proofs.Halves.{half_le, least}

-- u and the half of n, as they are read back
pub half_test : (u n : ℤ) → SFits w64 u → SFits w64 n → le_z (read u) (read (shr_z (read n) 2)) ≡ le_z (pos 2 *ℤ u) n
half_test u n f g =
    let h : SFits w64 (shr_z n 2) = record { sfits = lt_of_le_of_lt (mag_shr n 2) g.sfits } in
    cc (to_z-of_z f, to_z-of_z g, to_z-of_z h, half_le u n)

module _ (supp d : ℕ) (small-supp : supp < 2 ^ 32) (small-d : d < 2 ^ 32) where
  middle : Stands (pos 2 *ℤ to_z w64 supp) (pos 2 *ℤ pos supp) (2 * 2 ^ 32)
  middle = mul (literal 2) (cast small-supp)

  lower : Stands (read (pos 2 *ℤ to_z w64 supp) -ℤ to_z w64 d) (pos 2 *ℤ pos supp -ℤ pos d) (2 * 2 ^ 32 + 2 ^ 32)
  lower = sub (back middle tt) (cast small-d)

  upper : Stands (read (pos 2 *ℤ to_z w64 supp) +ℤ to_z w64 d) (pos 2 *ℤ pos supp +ℤ pos d) (2 * 2 ^ 32 + 2 ^ 32)
  upper = add (back middle tt) (cast small-d)

  below_upper : (n : ℕ) → n ≤ 1 → Stands (read (read (pos 2 *ℤ to_z w64 supp) +ℤ to_z w64 d) -ℤ pos n) (pos 2 *ℤ pos supp +ℤ pos d -ℤ pos n) (2 * 2 ^ 32 + 2 ^ 32 + 1)
  below_upper n h = sub (back upper tt) (exactly (pos n) h)

  pub middle_fits : SFits w64 (pos 2 *ℤ to_z w64 supp)
  middle_fits = fits middle tt

  pub lower_fits : SFits w64 (read (pos 2 *ℤ to_z w64 supp) -ℤ to_z w64 d)
  lower_fits = fits lower tt

  pub upper_fits : SFits w64 (read (pos 2 *ℤ to_z w64 supp) +ℤ to_z w64 d)
  upper_fits = fits upper tt

  pub below_upper_fits : (n : ℕ) → n ≤ 1 → SFits w64 (read (read (pos 2 *ℤ to_z w64 supp) +ℤ to_z w64 d) -ℤ pos n)
  below_upper_fits n h = fits (below_upper n h) tt

  module _ (u : ℤ) (fu : SFits w64 u) (t : Bool) where
    pub low_test : t ≡ le_z (pos 2 *ℤ read u) (read (read (pos 2 *ℤ to_z w64 supp) -ℤ to_z w64 d)) → t ≡ low_of u supp d
    unfolding low_of
    low_test e = cc (to_z-of_z fu, (back lower tt).is)

    pub high_test : t ≡ le_z (pos 2 *ℤ read u) (read (read (read (pos 2 *ℤ to_z w64 supp) +ℤ to_z w64 d) -ℤ pos 1)) → not t ≡ high_of u supp d
    unfolding high_of
    high_test e =
        let f : le_z (pos 2 *ℤ u) (pos 2 *ℤ pos supp +ℤ pos d -ℤ pos 1) ≡ t = cc (to_z-of_z fu, (back (below_upper 1 (le_refl 1)) tt).is) in
        sym (least (pos 2 *ℤ pos supp +ℤ pos d) (pos 2 *ℤ u) ∙ ap not f)

-- the level by the two tests
module _ (u : ℤ) (supp d : ℕ) (fu : SFits w64 u) (t : Bool) (told : t ≡ low_of (read u) supp d) where
  pub band_low : t ≡ true → Low ≡ band_of u supp d
  unfolding band_of
  band_low e = yes _ _ _ (low_of u supp d) (cc (to_z-of_z fu)) refl

  pub band_high : (t' : Bool) → t' ≡ high_of (read u) supp d → t ≡ false → t' ≡ true → High ≡ band_of u supp d
  unfolding band_of
  band_high t' told' e e' = no _ _ _ (low_of u supp d) (cc (to_z-of_z fu)) (yes _ _ _ (high_of u supp d) (cc (to_z-of_z fu)) refl)

  pub band_in : (t' : Bool) → t' ≡ high_of (read u) supp d → t ≡ false → t' ≡ false → InBand ≡ band_of u supp d
  unfolding band_of
  band_in t' told' e e' = no _ _ _ (low_of u supp d) (cc (to_z-of_z fu)) (no _ _ _ (high_of u supp d) (cc (to_z-of_z fu)) refl)

pub ruleset bands =
    (half_test, middle_fits, lower_fits, upper_fits, below_upper_fits, low_test, high_test, band_low, band_high, band_in, rules)
