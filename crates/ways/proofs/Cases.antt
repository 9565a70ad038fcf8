-- The definitions that go by a direction, as `search` follows them: `search ways`; and what tells directions apart.
-- Assumes nothing.
use mathlib.Core.Path.{◌≡◌, refl}
use mathlib.Core.Bool.{true, false, false≢true}
use Rattle.common.proofs.Cases.{cases}
use Rattle.ways.specs.Ways.{newer_of, raises, lowers, is_to}
use Rattle.ways.specs.declared.Direction.{Direction}
use Rattle.std.specs.Prelude.{Option, None, Some}
use Rattle.std.specs.Option.{option_or}
use Rattle.ways.specs.declared.Direction.TheVariants.{Raise, Lower}

module _ (w old : Option Direction) where
  pub newer_none : (new : Option Direction) → new ≡ None → w ≡ old → w ≡ newer_of new old
  unfolding newer_of
  newer_none new p q = rw p q

  pub newer_some : (new : Option Direction) (d : Direction) → new ≡ Some d → w ≡ Some d → w ≡ newer_of new old
  unfolding newer_of
  newer_some new d p q = rw p q

  pub newer_or : (new : Option Direction) → w ≡ option_or new old → w ≡ newer_of new old
  unfolding newer_of
  newer_or None q = q
  newer_or (Some d) q = q

pub ruleset ways = (newer_none, newer_some, newer_or, cases)

-- a command is on to one side only
pub one_way : (w : Option Direction) → raises w ≡ true → lowers w ≡ true → ⊥
one_way None p q = false≢true p
one_way (Some Raise) p q = false≢true q
one_way (Some Lower) p q = false≢true p

pub is_to_self : (d : Direction) → is_to d (Some d) ≡ true
is_to_self Raise = refl
is_to_self Lower = refl

pub is_to_is : (d e : Direction) → is_to d (Some e) ≡ true → e ≡ d
is_to_is Raise Raise p = refl
is_to_is Raise Lower p = absurd (false≢true p)
is_to_is Lower Raise p = absurd (false≢true p)
is_to_is Lower Lower p = refl

pub is_to_none : (d : Direction) → is_to d None ≡ false
is_to_none Raise = refl
is_to_none Lower = refl
