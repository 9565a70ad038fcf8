-- A drive without a switching contact: a tick keeps its limits, a fault that arises is 'long' and brings rest, and at rest it stays.
-- Assumes nothing.
use mathlib.Core.Path.{◌≡◌, refl, sym}
use mathlib.Core.Bool.{true, false, true≢false}
use Prim.Native.Nat.{ℕ, ◌+◌}
use Rattle.common.proofs.Cases.{either, chosen}
use Rattle.std.specs.Prelude.{Some}
use Rattle.drive_follow.specs.Follow.{unmoved_of, faulty_of, rests_of}
use Rattle.drive_hold.specs.Hold.{released_of, automatic_of, manual_of, held_from, hold_of, within_of}
use Rattle.fault.specs.Latches.{is_fault, long_or_none}
use Rattle.fault.specs.declared.Fault.TheVariants.{Long}
use Rattle.drive.specs.declared.Drive.{Drive}
use Rattle.drive.specs.declared.Drive.TheVariants.{Resting, Asked, Moving}
use Rattle.drive_follow.specs.declared.Followed.{Followed}
use Rattle.drive_hold.specs.declared.Holding.{Holding}

pub record Sound (t4 : ℕ) (o : Followed) : Type 0 where
  pub within : within_of o.drive t4 ≡ true
  pub stopped : is_fault o.fault ≡ true → rests_of o.drive ≡ true
  pub long : long_or_none o.fault ≡ true

module _ (x : Holding) where
  abbrev Good : Followed → Type 0
  Good o = Sound x.t4 o

  unmoved_good : (d : Drive) → within_of d x.t4 ≡ true → Good (unmoved_of d)
  unmoved_good d h = record { within = h; stopped = λ p. absurd (true≢false (sym p)); long = refl }

  rest_good : Good (unmoved_of Resting)
  unfolding within_of
  rest_good = unmoved_good Resting refl

  long_good : Good (faulty_of (Some Long))
  unfolding within_of
  long_good = record { within = refl; stopped = λ p. refl; long = refl }

  released_good : Good released_of
  unfolding within_of
  released_good = record { within = refl; stopped = λ p. refl; long = refl }

  kind_good : (s : Drive) → Good (held_from s x)
  unfolding held_from automatic_of manual_of within_of
  kind_good Resting = rest_good
  kind_good (Asked d n a) =
      chosen Good _ _ _
      (λ p. chosen Good _ _ _ (λ q. released_good) (λ q. chosen Good _ _ _ (λ r. unmoved_good (Asked d (n + 1) true) r) (λ r. long_good)))
      (λ p. chosen Good _ _ _ (λ q. unmoved_good (Asked d (n + 1) false) q) (λ q. released_good))
  kind_good (Moving d n m) = rest_good

  pub hold_sound : (s : Drive) → Sound x.t4 (hold_of s x)
  unfolding hold_of
  hold_sound s = chosen Good _ _ _ (λ p. rest_good) (λ p. kind_good s)

  -- at rest: nothing, whatever the contact does
  pub rest_holds : (s : Drive) → rests_of s ≡ true → unmoved_of Resting ≡ hold_of s x
  unfolding hold_of held_from
  rest_holds Resting e = either _ _ _ x.local refl refl
  rest_holds (Asked d n a) e = absurd (true≢false (sym e))
  rest_holds (Moving d n m) e = absurd (true≢false (sym e))
