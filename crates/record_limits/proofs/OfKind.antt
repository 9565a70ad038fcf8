-- The limits of a record for its drive and its fault, by the kind of drive.
-- Assumes nothing.
use mathlib.Core.Path.{◌≡◌, refl, sym, ◌∙◌}
use mathlib.Core.Bool.{Bool, true, false, ◌&&◌}
use mathlib.Core.List.{List}
use mathlib.Core.Logic.{⊎_elim}
use Prim.Native.Nat.{ℕ}
use borrow.Author.Tests.{eq-eqb, ne_eqb}
use Rattle.common.proofs.Cases.{yes, no, cases}
use Rattle.common.proofs.Joined.{and_right, and_both, split}
use Rattle.slots.specs.Slots.{slot, t4, t5, continuous, is_continuous}
use Rattle.drive.specs.declared.Drive.{Drive}
use Rattle.drive.specs.declared.Drive.TheVariants.{Resting}
use Rattle.drive_follow.specs.Follow as follow
use Rattle.drive_hold.specs.Hold as hold
use Rattle.fault.specs.declared.Fault.{Fault}
use Rattle.std.specs.Prelude.{Option}
use Rattle.fault.specs.Latches.{long_or_none}
use Rattle.record_limits.specs.Limits.{kind_within}

module _ (s : List ℕ) (d : Drive) (f : Option Fault) where
  -- without a switching contact
  pub held_kind : is_continuous s ≡ true → hold.within_of d (slot s t4) ≡ true → long_or_none f ≡ true → kind_within s d f ≡ true
  unfolding kind_within
  held_kind c w l = sym (yes _ _ _ _ c (sym (and_both _ _ w l)))

  pub kind_long : is_continuous s ≡ true → kind_within s d f ≡ true → long_or_none f ≡ true
  unfolding kind_within
  kind_long c e = and_right (hold.within_of d (slot s t4)) _ (yes _ _ _ _ c refl ∙ e)

  -- with one
  pub contact_kind : is_continuous s ≡ false → follow.within_of d (slot s t4) (slot s t5) ≡ true → kind_within s d f ≡ true
  unfolding kind_within
  contact_kind c w = sym (no _ _ _ _ c (sym w))

-- a drive at rest is within them, whatever its kind
pub rest_kind : (s : List ℕ) (f : Option Fault) → long_or_none f ≡ true → kind_within s Resting f ≡ true
unfolding hold.within_of follow.within_of
rest_kind s f l = ⊎_elim (λ c. held_kind s Resting f c refl l) (λ c. contact_kind s Resting f c refl) (split (is_continuous s))

-- as the function finds it
module _ (s : List ℕ) (d : Drive) (f : Option Fault) {b : Bool} where
  pub kind_held : {held long : Bool} → slot s continuous ≡ 1 → held ≡ hold.within_of d (slot s t4) → long ≡ long_or_none f → b ≡ (held && long)
      → b ≡ kind_within s d f
  unfolding kind_within
  kind_held e p q t = yes _ _ _ _ (eq-eqb _ _ e) (rw (← p, ← q) t)

  pub kind_contact : (slot s continuous ≡ 1 → ⊥) → b ≡ follow.within_of d (slot s t4) (slot s t5) → b ≡ kind_within s d f
  unfolding kind_within
  kind_contact e p = no _ _ _ _ (ne_eqb _ _ e) p

pub ruleset kinds = (kind_held, kind_contact, cases)
