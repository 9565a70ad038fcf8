-- A number against a limit, and a level by whether the number is missing, as `search` follows them: `search limits`.
-- Assumes nothing.
use mathlib.Core.Path.{◌≡◌, ◌∙◌}
use mathlib.Core.Bool.{Bool, false}
use mathlib.Core.List.{List}
use Prim.Native.Nat.{ℕ, ◌<◌, ◌^◌}
use borrow.Author.Rules.{rules}
use lib.IntN.{ℤ, pos}
use lib.Signed.{lt_z}
use mir.Syntax.{w64}
use mir.Val.{SFits, to_z}
use mir.Facts.{to_z-of_z}
use Rattle.common.proofs.Signed.{read, cast}
use Rattle.slots.specs.Slots.{slot, d_u, u_set5}
use Rattle.std.specs.Prelude.{Option, None, Some}
use Rattle.busbar_level.specs.declared.Level.{Level}
use Rattle.busbar_deviation.specs.Deviation.{band_of, level_of, far_above}

pub level_missing : (r : Option Level) (s : List ℕ) (v : Option ℤ) (supp : ℕ) → v ≡ None → r ≡ None → r ≡ level_of s v supp
unfolding level_of
level_missing r s v supp p q = rw p q

pub level_is : (r : Option Level) (s : List ℕ) (v : Option ℤ) (supp : ℕ) (z : ℤ) → v ≡ Some z → SFits w64 z → r ≡ Some (band_of (read z) supp (slot s d_u)) → r ≡ level_of s v supp
unfolding level_of
level_is r s v supp z p f q = rw p (cc (to_z-of_z f))

pub above_test : (u : ℤ) (limit : ℕ) → SFits w64 u → limit < 2 ^ 32 → lt_z (to_z w64 limit) (read u) ≡ lt_z (pos limit) u
above_test u limit f h = cc (to_z-of_z f, (cast h).is)

module _ (r : Bool) (s : List ℕ) (v : Option ℤ) where
  pub far_missing : v ≡ None → r ≡ false → r ≡ far_above s v
  unfolding far_above
  far_missing p q = rw p q

  pub far_is : (z : ℤ) → v ≡ Some z → SFits w64 z → slot s u_set5 < 2 ^ 32 → r ≡ lt_z (to_z w64 (slot s u_set5)) (read z) → r ≡ far_above s v
  unfolding far_above
  far_is z p f h q = rw p (q ∙ above_test z (slot s u_set5) f h)

pub ruleset limits = (level_missing, level_is, above_test, far_missing, far_is, rules)
