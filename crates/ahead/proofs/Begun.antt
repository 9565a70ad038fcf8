-- The test that a look goes by is demand 3's *begins*.
-- Assumes nothing.
use mathlib.Core.Path.{◌≡◌, refl, sym, ap, ◌∙◌}
use mathlib.Core.Bool.{Bool, true, false, true≢false, false≢true}
use mathlib.Core.Logic.{inl, inr, ◌↔◌}
use borrow.Author.Tests.{eqb-true, eq-eqb}
use lib.Dec.{eqb}
use Rattle.common.specs.Choice.{choose}
use Rattle.ways.specs.declared.Direction.{Direction}
use Rattle.ways.specs.declared.Direction.TheVariants.{Raise, Lower}
use Rattle.std.specs.Prelude.{Option, None, Some}
use Rattle.ways.specs.Ways.{raises, lowers}
use Rattle.claim.specs.Claim.{Tick, output, Begins, Command}
use Rattle.ahead.specs.Looking.{way_begun, begun_by}

pub no_way : (d : Direction) → None ≡ Some d → ⊥
no_way Raise e = false≢true (ap raises e)
no_way Lower e = false≢true (ap lowers e)

module _ (t : Tick) where
  abbrev chosen_by : Bool → Bool → Bool → Bool → Option Direction
  chosen_by accepted rest raise lower = choose accepted (choose rest (choose raise (Some Raise) (choose lower (Some Lower) None)) None) None

  told : (d : Direction) (a r u l : Bool) → eqb t.refusal 0 ≡ a → t.rest ≡ r → eqb (output 0 t) 1 ≡ u → eqb (output 1 t) 1 ≡ l → chosen_by a r u l ≡ Some d
      → Begins d t
  unfolding choose
  told Raise true true true l p q x y e = record { accepted = eqb-true _ _ p; from_rest = q; on = eqb-true _ _ x }
  told Lower true true true l p q x y e = absurd (true≢false (ap raises e))
  told Raise true true false true p q x y e = absurd (false≢true (ap raises e))
  told Lower true true false true p q x y e = record { accepted = eqb-true _ _ p; from_rest = q; on = eqb-true _ _ y }
  told d true true false false p q x y e = absurd (no_way d e)
  told d true false u l p q x y e = absurd (no_way d e)
  told d false r u l p q x y e = absurd (no_way d e)

  -- a tick whose way is not none begins a command to it
  pub begins_to : (d : Direction) → begun_by t ≡ Some d → Begins d t
  unfolding begun_by way_begun
  begins_to d e = told d _ _ _ _ refl refl refl refl e

  lower_alone : (u : Bool) → eqb (output 0 t) 1 ≡ u → (output 0 t ≡ 1 → ⊥) → u ≡ false
  lower_alone true e n = absurd (n (eqb-true _ _ e))
  lower_alone false e n = refl

  -- and a command that begins is told by it, where raise and lower are not on together, as on no tick
  pub way_of : (output 0 t ≡ 1 → output 1 t ≡ 1 → ⊥) → (d : Direction) → Begins d t → begun_by t ≡ Some d
  unfolding begun_by way_begun choose
  way_of n Raise b = rw (eq-eqb _ _ b.accepted, b.from_rest, eq-eqb _ _ b.on) refl
  way_of n Lower b =
      rw (eq-eqb _ _ b.accepted, b.from_rest, lower_alone _ refl (λ e. n e b.on), eq-eqb _ _ b.on) refl

  -- demand 3's word
  pub begins_exactly : (output 0 t ≡ 1 → output 1 t ≡ 1 → ⊥) → (d : Direction) → (begun_by t ≡ Some d) ↔ Begins d t
  begins_exactly n d = (begins_to d, way_of n d)

  not_to : (w : Option Direction) → begun_by t ≡ w → (Command t → ⊥) → begun_by t ≡ None
  not_to None e n = e
  not_to (Some Raise) e n = absurd (n (inl (begins_to Raise e)))
  not_to (Some Lower) e n = absurd (n (inr (begins_to Lower e)))

  none_to : (output 0 t ≡ 1 → output 1 t ≡ 1 → ⊥) → begun_by t ≡ None → Command t → ⊥
  none_to n e (inl b) = no_way Raise (sym e ∙ way_of n Raise b)
  none_to n e (inr b) = no_way Lower (sym e ∙ way_of n Lower b)

  pub none_exactly : (output 0 t ≡ 1 → output 1 t ≡ 1 → ⊥) → (begun_by t ≡ None) ↔ (Command t → ⊥)
  none_exactly n = (none_to n, not_to _ refl)
