-- One-step laws of a drive with a switching contact: asked, moving and at rest again, on ticks with all else lasting.
-- Assumes nothing.
use mathlib.Core.Path.{◌≡◌, refl, sym, ap, ◌∙◌}
use mathlib.Core.Bool.{Bool, true, false, ◌&&◌}
use Prim.Native.Nat.{ℕ}
use borrow.Author.Tests.{ne_eqb}
use native.Mathlib.Omega.{arith}
use Rattle.slots.specs.Slots.{slot, continuous}
use Rattle.ways.specs.declared.Direction.{Direction}
use Rattle.drive.specs.declared.Drive.{Drive}
use Rattle.drive.specs.declared.Drive.TheVariants.{Resting, Asked, Moving}
use Rattle.drive_follow.specs.Follow.{follow_of, rests_of}
use Rattle.fault.specs.Latches.{is_fault}
use Rattle.drive_follow.specs.declared.Contact.{Contact}
use Rattle.drive_follow.specs.declared.Followed.{Followed}
use Rattle.drive_follow.proofs.Serving as serving
use Rattle.input.specs.declared.Input.{Input}
use Rattle.command.specs.declared.Decided.{Decided}
use Rattle.command_deciding.proofs.Sound.{decided_idle}
use Rattle.record.specs.declared.Regulator.{Regulator}
use Rattle.acting_commanding.specs.Commanding.{ask_of, situation_of}
use Rattle.acting_supervising.specs.Supervising.{contact_of}
use Rattle.acting_supervising.proofs.EachKind.{contact_is}
use Rattle.rules.specs.declared.Ticked.{Ticked}
use Rattle.claim.specs.Claim.{Lasting, closed}
use Rattle.rules.proofs.Shown.{contacts_at, supervised_at, situation_at, live_drive}
use Rattle.rules.proofs.Steps.{tick_at, next_at, finding_at, cleared_at, followed_at, followed_is, no_fault_before, blocks_not_local, live_of}

-- the contact as rule 7 sees it
abbrev contact_at : Regulator → Input → Contact
contact_at r i = contact_of r.settings (contacts_at i) (finding_at r i).tap (cleared_at r i) r.state.wear.last

module _ (d : Direction) (rest : Bool) (g : Drive) (r : Regulator) (i : Input) (l : Lasting d (tick_at rest r i)) (e : r.state.drive ≡ g)
    (busy : rests_of g ≡ false) (z : slot r.settings continuous ≡ 0) where
  -- it has the contact
  by_contact : followed_at g r i ≡ follow_of g (contact_at r i)
  by_contact =
      sym (contact_is r.settings (contacts_at i) (finding_at r i) g (cleared_at r i) r.state.wear.last (ne_eqb _ 1 (λ (e : slot r.settings continuous ≡ 1). omega arith)))

  -- no command begins on a drive that does not rest
  goes_on : (next_at r i).state.drive ≡ (follow_of g (contact_at r i)).drive
  unfolding situation_of ask_of
  goes_on =
      let v = live_of d rest r i l in
      let n : (situation_at r i).resting ≡ false = ap (λ (b : Bool). b && rests_of (supervised_at r i).drive) (ap rests_of e ∙ busy) in
      ap (λ (t : Ticked Regulator). t.next.state.drive) v.is ∙ live_drive r i
      ∙ ap (λ (o : Decided). ask_of (supervised_at r i).drive (contacts_at i).automatic o.command) (sym (decided_idle r.settings (situation_at r i) n))
      ∙ followed_is r i ∙ ap (λ (h : Drive). (followed_at h r i).drive) e ∙ ap (λ (o : Followed). o.drive) by_contact

  no_fault_on : is_fault (follow_of g (contact_at r i)).fault ≡ false
  no_fault_on =
      sym (ap (λ (o : Followed). is_fault o.fault) by_contact) ∙ ap (λ (h : Drive). is_fault (followed_at h r i).fault) (sym e)
      ∙ (no_fault_before r i (live_of d rest r i l).fault).0

  not_local_lem : (contact_at r i).local ≡ false
  unfolding contact_of
  not_local_lem = blocks_not_local r i (live_of d rest r i l).mode

module _ (d : Direction) (rest : Bool) (r : Regulator) (i : Input) (l : Lasting d (tick_at rest r i)) (z : slot r.settings continuous ≡ 0) (f : Direction)
    (n : ℕ) where
  pub asked_open : (a : Bool) → r.state.drive ≡ Asked f n a → closed (tick_at rest r i) ≡ false → (m : ℕ) × ((next_at r i).state.drive ≡ Asked f m a)
  unfolding contact_of
  asked_open a e c =
      let s = serving.asked_open (contact_at r i) f n a (not_local_lem d rest (Asked f n a) r i l e refl z) c (no_fault_on d rest (Asked f n a) r i l e refl z) in
      (s.0, goes_on d rest (Asked f n a) r i l e refl z ∙ s.1)

  pub asked_closed : (a : Bool) → r.state.drive ≡ Asked f n a → closed (tick_at rest r i) ≡ true → (next_at r i).state.drive ≡ Moving f 1 true
  unfolding contact_of
  asked_closed a e c =
      goes_on d rest (Asked f n a) r i l e refl z ∙ serving.asked_closed (contact_at r i) f n a (not_local_lem d rest (Asked f n a) r i l e refl z) c

  pub moving_closed : r.state.drive ≡ Moving f n true → closed (tick_at rest r i) ≡ true → (m : ℕ) × ((next_at r i).state.drive ≡ Moving f m true)
  unfolding contact_of
  moving_closed e c =
      let s = serving.moving_closed (contact_at r i) f n true (not_local_lem d rest (Moving f n true) r i l e refl z) c (no_fault_on d rest (Moving f n true) r i l e refl z) in
      (s.0, goes_on d rest (Moving f n true) r i l e refl z ∙ s.1)

  pub moving_open : r.state.drive ≡ Moving f n true → closed (tick_at rest r i) ≡ false → (next_at r i).state.drive ≡ Resting
  unfolding contact_of
  moving_open e c =
      goes_on d rest (Moving f n true) r i l e refl z ∙ serving.moving_open (contact_at r i) f n true (not_local_lem d rest (Moving f n true) r i l e refl z) c
