-- The rules, number by number.
-- Assumes nothing.
use mathlib.Core.Path.{◌≡◌, refl, sym, ◌∙◌}
use mathlib.Core.Bool.{Bool, true, false}
use mathlib.Core.List.{List}
use Prim.Native.Nat.{ℕ, ◌≤◌}
use native.Mathlib.Omega.{arith}
use lib.ListN.{length, get_or, set, get_or-eq_default}
use lib.Seq.{set_out}
use Rattle.std.specs.Prelude.{None, Some}
use Rattle.common.proofs.Cases.{yes, no}
use Rattle.journal.specs.declared.Progress.{Progress}
use Rattle.journal.specs.declared.Turn.TheVariants.{Field}
use Rattle.showing.specs.Showing.{field_count}
use Rattle.journal.specs.Rules.{is_last, may_follow, judged_stamp}

pub no_field : (l : List ℕ) (f : ℕ) → length l ≡ field_count → field_count ≤ f → 0 ≡ get_or l f 0
no_field l f e h = sym (get_or-eq_default l 0 (omega arith))

pub not_stored : (l : List ℕ) (f n : ℕ) → length l ≡ field_count → field_count ≤ f → l ≡ set l f n
not_stored l f n e h = sym (set_out l f n (omega arith))

module _ (s : Progress) (n : ℕ) where
  pub stamp_is : {b c : Bool} → b ≡ may_follow s.stamp n → c ≡ is_last s.stamp n → b ≡ true
      → Some (record { turn = Field; stamp = Some n; same = c; field = s.field; last = s.last }) ≡ judged_stamp s n
  unfolding judged_stamp
  stamp_is e o t = rw o (yes _ _ _ _ (sym e ∙ t) refl)

  pub stamp_not : {b : Bool} → b ≡ may_follow s.stamp n → b ≡ false → None ≡ judged_stamp s n
  unfolding judged_stamp
  stamp_not e t = no _ _ _ _ (sym e ∙ t) refl
