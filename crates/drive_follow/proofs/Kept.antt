-- A tick keeps the limits of the drive, and a fault that arises brings rest.
-- Assumes nothing.
use mathlib.Core.Path.{◌≡◌, refl}
use mathlib.Core.Bool.{Bool, true, false}
use Prim.Native.Nat.{ℕ, ◌+◌, ◌≤◌}
use native.Mathlib.Omega.{arith}
use borrow.Author.Tests.{leb-true, le-leb}
use Rattle.common.proofs.Cases.{no, either, chosen}
use Rattle.common.proofs.Joined.{and_false}
use Rattle.drive_follow.specs.Follow.{unmoved_of, faulty_of, ended_of, own_of, rest_of, asked_of, moving_of, supervised_of, follow_of, rests_of, within_of}
use Rattle.fault.specs.Latches.{is_fault}
use Rattle.ways.specs.declared.Direction.{Direction}
use Rattle.drive.specs.declared.Drive.{Drive}
use Rattle.drive.specs.declared.Drive.TheVariants.{Resting, Asked, Moving}
use Rattle.fault.specs.declared.Fault.{Fault}
use Rattle.std.specs.Prelude.{Option, None, Some}
use Rattle.drive_follow.specs.declared.Contact.{Contact}
use Rattle.drive_follow.specs.declared.Followed.{Followed}

-- what is kept of a drive that was followed: within its limits, and at rest where a fault arose
pub record Sound (t4 t5 : ℕ) (o : Followed) : Type 0 where
  pub within : within_of o.drive t4 t5 ≡ true
  pub stopped : is_fault o.fault ≡ true → rests_of o.drive ≡ true

module _ (x : Contact) (four : 1 ≤ x.t4) where
  abbrev Good : Followed → Type 0
  Good o = Sound x.t4 x.t5 o

  rest_good : (f : Option Fault) → Good (faulty_of f)
  unfolding within_of
  rest_good f = record { within = refl; stopped = λ p. refl }

  unmoved_good : (d : Drive) → within_of d x.t4 x.t5 ≡ true → Good (unmoved_of d)
  unmoved_good d h = record { within = h; stopped = λ p. let z : ◌≡◌ {A = Bool} false true = p in cc }

  move_good : (d : Direction) (n : ℕ) (m : Bool) → 1 ≤ n → n ≤ x.t4 → Good (unmoved_of (Moving d n m))
  unfolding within_of
  move_good d n m p q = unmoved_good (Moving d n m) (rw (le-leb 1 n p, le-leb n x.t4 q))

  ended_good : (d : Direction) (f : Option Fault) → Good (ended_of d f)
  unfolding within_of
  ended_good d f = record { within = refl; stopped = λ p. refl }

  resting_good : Good (unmoved_of Resting)
  unfolding within_of
  resting_good = unmoved_good Resting refl

  own_good : (w : Option Direction) → Good (own_of w)
  unfolding own_of
  own_good None = rest_good _
  own_good (Some d) = move_good d 1 false (omega arith) four

  supervised_good : (s : Drive) → Good (supervised_of s x)
  unfolding supervised_of rest_of asked_of moving_of within_of
  supervised_good Resting =
      chosen Good _ _ _ (λ p. chosen Good _ _ _ (λ q. own_good x.last) (λ q. rest_good _)) (λ p. resting_good)
  supervised_good (Asked d n a) =
      chosen Good _ _ _ (λ p. move_good d 1 true (omega arith) four) (λ p. chosen Good _ _ _ (λ q. unmoved_good (Asked d (n + 1) a) q) (λ q. rest_good _))
  supervised_good (Moving d n m) =
      chosen Good _ _ _
      (λ p. chosen Good _ _ _ (λ q. move_good d (n + 1) m (omega arith) (leb-true (n + 1) x.t4 q)) (λ q. rest_good _))
      (λ p. chosen Good _ _ _ (λ q. ended_good d _) (λ q. ended_good d _))

  pub follow_sound : (s : Drive) → Sound x.t4 x.t5 (follow_of s x)
  unfolding follow_of
  follow_sound s = chosen Good _ _ _ (λ p. resting_good) (λ p. supervised_good s)

-- with a fault latched, a drive at rest stays so, and no other fault arises
pub faulty_stays : (x : Contact) (s : Drive) → x.faulty ≡ true → rests_of s ≡ true → unmoved_of Resting ≡ follow_of s x
unfolding follow_of supervised_of rest_of
faulty_stays x Resting p q = either _ _ _ x.local refl (no _ _ _ _ (rw p (and_false x.closed)) refl)
faulty_stays x (Asked d n a) p q = let z : ◌≡◌ {A = Bool} false true = q in cc
faulty_stays x (Moving d n m) p q = let z : ◌≡◌ {A = Bool} false true = q in cc
