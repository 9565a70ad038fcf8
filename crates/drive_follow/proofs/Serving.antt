-- How a drive with a switching contact goes from rest, asked and moving, where it is supervised and no fault arises.
-- Assumes nothing.
use mathlib.Core.Path.{◌≡◌, refl, sym, ap, subst}
use mathlib.Core.Bool.{Bool, true, false, ◌&&◌, true≢false, false≢true}
use Prim.Native.Nat.{ℕ, ◌+◌}
use lib.Dec.{ltb, leb}
use Rattle.common.specs.Choice.{choose}
use Rattle.common.proofs.Cases.{yes, no, either, chosen}
use Rattle.drive_follow.specs.Follow.{unmoved_of, faulty_of, ended_of, own_of, rest_of, asked_of, moving_of, supervised_of, follow_of, rests_of}
use Rattle.fault.specs.Latches.{is_fault}
use Rattle.drive_shown.specs.Shown.{on_of}
use Rattle.ways.specs.declared.Direction.{Direction}
use Rattle.drive.specs.declared.Drive.{Drive}
use Rattle.drive.specs.declared.Drive.TheVariants.{Resting, Asked, Moving}
use Rattle.fault.specs.declared.Fault.TheVariants.{RunAway, NotStarted, Long, Fast}
use Rattle.std.specs.Prelude.{Option, None, Some}
use Rattle.drive_follow.specs.declared.Contact.{Contact}
use Rattle.drive_follow.specs.declared.Followed.{Followed}

pub rests_is : (d : Drive) → rests_of d ≡ true → d ≡ Resting
rests_is Resting e = refl
rests_is (Asked d n a) e = let z : ◌≡◌ {A = Bool} false true = e in cc
rests_is (Moving d n m) e = let z : ◌≡◌ {A = Bool} false true = e in cc

module _ (k : Contact) where
  -- from rest no command is on: an own move has none
  own_silent : (n : ℕ) (w : Option Direction) → on_of (own_of w).drive n ≡ None
  unfolding own_of on_of choose
  own_silent n None = refl
  own_silent n (Some d) = refl

  rest_silent' : (n : ℕ) → on_of (follow_of Resting k).drive n ≡ None
  unfolding follow_of supervised_of rest_of on_of
  rest_silent' n =
      chosen (λ (o : Followed). on_of o.drive n ≡ None) _ _ _ (λ p. refl)
      (λ p.
      chosen (λ (o : Followed). on_of o.drive n ≡ None) _ _ _
      (λ q. chosen (λ (o : Followed). on_of o.drive n ≡ None) _ _ _ (λ s. own_silent n k.last) (λ s. refl))
      (λ q. refl))

  pub rest_silent : (d : Drive) (n : ℕ) → rests_of d ≡ true → on_of (follow_of d k).drive n ≡ None
  rest_silent d n e = rw (rests_is d e) (rest_silent' n)

  -- at rest with the contact open: nothing
  pub rest_open : (d : Drive) → rests_of d ≡ true → k.closed ≡ false → unmoved_of Resting ≡ follow_of d k
  unfolding follow_of supervised_of rest_of
  rest_open d e c = rw (rests_is d e) (either _ _ _ k.local refl (no _ _ _ _ (rw c) refl))

  -- what is followed where the drive is supervised
  pub supervised : (d : Drive) → k.local ≡ false → supervised_of d k ≡ follow_of d k
  unfolding follow_of
  supervised d l = no _ _ _ _ l refl

  -- a contact that closes at rest, with no fault latched, is a run-away or starts an own move
  own_starts : (w : Option Direction) → is_fault (own_of w).fault ≡ false → rests_of (own_of w).drive ≡ true → ⊥
  unfolding own_of
  own_starts None f r = true≢false f
  own_starts (Some d) f r = false≢true r

  abbrev Stirs : Followed → Type 0
  Stirs o = is_fault o.fault ≡ false → rests_of o.drive ≡ true → ⊥

  closes : k.local ≡ false → k.faulty ≡ false → k.closed ≡ true → choose k.sliding (own_of k.last) (faulty_of (Some RunAway)) ≡ follow_of Resting k
  unfolding follow_of supervised_of rest_of
  closes l f c = no _ _ _ _ l (yes _ _ _ _ (rw (c, f)) refl)

  closing : (d : Drive) → rests_of d ≡ true → k.local ≡ false → k.faulty ≡ false → k.closed ≡ true → Stirs (follow_of d k)
  closing d e l f c =
      let s : Stirs (choose k.sliding (own_of k.last) (faulty_of (Some RunAway))) =
      chosen Stirs k.sliding (own_of k.last) (faulty_of (Some RunAway)) (λ p. own_starts k.last) (λ p f r. true≢false f) in
      rw (rests_is d e) (subst Stirs (closes l f c) s)

  pub rest_needs_open : (d : Drive) → rests_of d ≡ true → k.local ≡ false → k.faulty ≡ false → is_fault (follow_of d k).fault ≡ false
      → rests_of (follow_of d k).drive ≡ true → k.closed ≡ false
  rest_needs_open d e l f n r = go k.closed refl
    where
      go : (b : Bool) → k.closed ≡ b → b ≡ false
      go true c = absurd (closing d e l f c n r)
      go false c = refl

  -- an asked command
  module _ (e : Direction) (a : ℕ) (b : Bool) (l : k.local ≡ false) where
    abbrev AskedStill : Followed → Type 0
    AskedStill o = is_fault o.fault ≡ false → (n : ℕ) × (o.drive ≡ Asked e n b)

    pub asked_open : k.closed ≡ false → is_fault (follow_of (Asked e a b) k).fault ≡ false → (n : ℕ) × ((follow_of (Asked e a b) k).drive ≡ Asked e n b)
    unfolding follow_of supervised_of asked_of
    asked_open c =
        subst AskedStill (no _ _ _ _ l (no _ _ _ _ c refl))
        (chosen AskedStill (ltb (a + 1) k.t5) (unmoved_of (Asked e (a + 1) b)) (faulty_of (Some NotStarted)) (λ p f. (a + 1, refl)) (λ p f. absurd (true≢false f)))

    pub asked_closed : k.closed ≡ true → (follow_of (Asked e a b) k).drive ≡ Moving e 1 true
    unfolding follow_of supervised_of asked_of
    asked_closed c = ap (λ (o : Followed). o.drive) (sym (no _ _ _ _ l (yes _ _ _ _ c refl)))

  -- a move
  module _ (e : Direction) (a : ℕ) (m : Bool) (l : k.local ≡ false) where
    abbrev MovesStill : Followed → Type 0
    MovesStill o = is_fault o.fault ≡ false → (n : ℕ) × (o.drive ≡ Moving e n m)

    pub moving_closed : k.closed ≡ true → is_fault (follow_of (Moving e a m) k).fault ≡ false → (n : ℕ) × ((follow_of (Moving e a m) k).drive ≡ Moving e n m)
    unfolding follow_of supervised_of moving_of
    moving_closed c =
        subst MovesStill (no _ _ _ _ l (yes _ _ _ _ c refl))
        (chosen MovesStill (leb (a + 1) k.t4) (unmoved_of (Moving e (a + 1) m)) (faulty_of (Some Long)) (λ p f. (a + 1, refl)) (λ p f. absurd (true≢false f)))

    pub moving_open : k.closed ≡ false → (follow_of (Moving e a m) k).drive ≡ Resting
    unfolding follow_of supervised_of moving_of
    moving_open c =
        subst (λ (o : Followed). o.drive ≡ Resting) (no _ _ _ _ l (no _ _ _ _ c refl))
        (chosen (λ (o : Followed). o.drive ≡ Resting) (m && ltb a k.t6) (ended_of e (Some Fast)) (ended_of e None) (λ p. refl) (λ p. refl))
