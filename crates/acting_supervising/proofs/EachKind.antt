-- Rule 7 over the kind of drive: what holds of a drive with a switching contact and of one without.
-- Assumes nothing.
use mathlib.Core.Path.{◌≡◌, refl, ap, ◌∙◌, subst}
use mathlib.Core.Bool.{true, false}
use mathlib.Core.List.{List}
use mathlib.Core.Logic.{◌⊎◌, inl, inr, ⊎_elim}
use Prim.Native.Nat.{ℕ, ◌≤◌}
use borrow.Author.Tests.{eqb-true, eq-eqb}
use Rattle.common.proofs.Cases.{yes, no, chosen}
use Rattle.common.proofs.Joined.{split}
use Rattle.slots.specs.Slots.{slot, t4, t5, continuous, is_continuous}
use Rattle.input.specs.declared.Contacts.{Contacts}
use Rattle.drive.specs.declared.Drive.{Drive}
use Rattle.drive.specs.declared.Drive.TheVariants.{Resting}
use Rattle.drive_follow.specs.declared.Contact.{Contact}
use Rattle.drive_follow.specs.declared.Followed.{Followed}
use Rattle.drive_hold.specs.declared.Holding.{Holding}
use Rattle.drive_follow.specs.Follow as follow
use Rattle.drive_follow.specs.Follow.{unmoved_of, follow_of, rests_of}
use Rattle.drive_hold.specs.Hold as hold
use Rattle.drive_hold.specs.Hold.{hold_of}
use Rattle.drive_shown.specs.Shown.{on_of}
use Rattle.drive_follow.proofs.Kept as kept
use Rattle.drive_hold.proofs.Kept as holding
use Rattle.drive_follow.proofs.Serving as serving
use Rattle.fault.specs.declared.Latch.{Latch}
use Rattle.fault.specs.Latches.{is_fault, long_or_none}
use Rattle.std.specs.Prelude.{Option, None}
use Rattle.ways.specs.declared.Direction.{Direction}
use Rattle.acting_judging.specs.declared.Finding.{Finding}
use Rattle.acting_supervising.specs.Supervising.{contact_of, holding_of, followed_of}

-- no switching contact, or an open one
abbrev pub Free : List ℕ → Contacts → Type 0
Free s c = (slot s continuous ≡ 1) ⊎ (c.switching ≡ false)

module _ (s : List ℕ) (c : Contacts) (x : Finding) (d : Drive) (l : Latch) (last : Option Direction) where
  abbrev contact : Contact
  contact = contact_of s c x.tap l last

  abbrev held : Holding
  held = holding_of s c x l

  abbrev pub followed : Followed
  followed = followed_of s c x d l last

  pub held_is : is_continuous s ≡ true → hold_of d held ≡ followed
  unfolding followed_of
  held_is e = yes _ _ _ _ e refl

  pub contact_is : is_continuous s ≡ false → follow_of d contact ≡ followed
  unfolding followed_of
  contact_is e = no _ _ _ _ e refl

  -- what holds of both kinds
  each : (P : Followed → Type 0) → (is_continuous s ≡ true → P (hold_of d held)) → (is_continuous s ≡ false → P (follow_of d contact)) → P followed
  unfolding followed_of
  each P p q = chosen P _ _ _ p q

  -- at rest: no command is on; where no contact closes, nothing
  pub rest_silent : (n : ℕ) → rests_of d ≡ true → on_of followed.drive n ≡ None
  unfolding on_of
  rest_silent n e =
      each (λ (o : Followed). on_of o.drive n ≡ None) (λ p. subst (λ (o : Followed). on_of o.drive n ≡ None) (holding.rest_holds held d e) refl)
      (λ p. serving.rest_silent contact d n e)

  pub rest_free : rests_of d ≡ true → Free s c → unmoved_of Resting ≡ followed
  unfolding contact_of
  rest_free e (inl k) = holding.rest_holds held d e ∙ held_is (eq-eqb _ _ k)
  rest_free e (inr o) =
      each (λ (f : Followed). unmoved_of Resting ≡ f) (λ p. holding.rest_holds held d e) (λ p. serving.rest_open contact d e o)

  -- a drive that stays at rest, supervised and without a fault, has no contact that closes
  pub rest_needs_free : rests_of d ≡ true → c.local_drive ≡ false → is_fault l.fault ≡ false → is_fault followed.fault ≡ false
      → rests_of followed.drive ≡ true → Free s c
  unfolding contact_of
  rest_needs_free e m f n r =
      ⊎_elim (λ p. inl (eqb-true _ _ p))
      (λ p.
      inr
      (serving.rest_needs_open contact d e m f (ap (λ (o : Followed). is_fault o.fault) (contact_is p) ∙ n)
      (ap (λ (o : Followed). rests_of o.drive) (contact_is p) ∙ r)))
      (split (is_continuous s))

  -- with a fault latched, a drive at rest stays so, and no other fault arises
  pub faulty_stays : is_fault l.fault ≡ true → rests_of d ≡ true → unmoved_of Resting ≡ followed
  unfolding contact_of
  faulty_stays f e =
      each (λ (o : Followed). unmoved_of Resting ≡ o) (λ p. holding.rest_holds held d e) (λ p. kept.faulty_stays contact d f e)

  -- a fault that arises brings rest
  pub fault_stops : 1 ≤ slot s t4 → is_fault followed.fault ≡ true → rests_of followed.drive ≡ true
  unfolding contact_of
  fault_stops four =
      each (λ (o : Followed). is_fault o.fault ≡ true → rests_of o.drive ≡ true) (λ p. (holding.hold_sound held d).stopped)
      (λ p. (kept.follow_sound contact four d).stopped)

  -- the limits of each kind are kept
  pub held_kept : is_continuous s ≡ true → (hold.within_of followed.drive (slot s t4) ≡ true) × (long_or_none followed.fault ≡ true)
  unfolding holding_of
  held_kept e =
      subst (λ (o : Followed). (hold.within_of o.drive (slot s t4) ≡ true) × (long_or_none o.fault ≡ true)) (held_is e)
      ((holding.hold_sound held d).within, (holding.hold_sound held d).long)

  pub contact_kept : 1 ≤ slot s t4 → is_continuous s ≡ false → follow.within_of followed.drive (slot s t4) (slot s t5) ≡ true
  unfolding contact_of
  contact_kept four e =
      subst (λ (o : Followed). follow.within_of o.drive (slot s t4) (slot s t5) ≡ true) (contact_is e) (kept.follow_sound contact four d).within
