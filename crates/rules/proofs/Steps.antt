-- One-step laws: what a single tick does, as the claim about lists needs it.
-- Assumes nothing.
use mathlib.Core.Path.{◌≡◌, refl, sym, ap, ◌∙◌}
use mathlib.Core.Bool.{Bool, true, false, true≢false}
use Prim.Native.Nat.{ℕ}
use native.Mathlib.Omega.{arith}
use lib.Dec.{eqb}
use Rattle.common.specs.Choice.{choose}
use Rattle.common.proofs.Cases.{yes, no, chosen}
use Rattle.slots.specs.Slots.{slot, in_service, t7}
use Rattle.ways.specs.declared.Direction.{Direction}
use Rattle.ways.specs.declared.Direction.TheVariants.{Raise, Lower}
use Rattle.std.specs.Prelude.{Some}
use Rattle.acting_judging.specs.declared.Finding.{Finding}
use Rattle.drive_follow.specs.declared.Followed.{Followed}
use Rattle.fault.specs.declared.Latch.{Latch}
use Rattle.drive.specs.declared.Drive.{Drive}
use Rattle.drive_follow.specs.Follow.{rests_of}
use Rattle.fault.specs.Latches.{is_fault, latched_of}
use Rattle.drive_shown.specs.Shown.{on_of}
use Rattle.ways.proofs.Cases.{one_way}
use Rattle.fault.proofs.Kept.{later_none}
use Rattle.input.specs.declared.Input.{Input}
use Rattle.blocks.proofs.Laws.{automatic_no_fault, automatic_not_local}
use Rattle.blocks.specs.Blocked.{opposed_of}
use Rattle.command_automatic.specs.Automatic.{waited_of}
use Rattle.record.specs.declared.Regulator.{Regulator}
use Rattle.record_limits.specs.Limits.{within_of}
use Rattle.record_starting.specs.Starting.{fresh_of}
use Rattle.acting_judging.specs.Judging.{blocked_of}
use Rattle.busbar_level.specs.Levels.{side_of}
use Rattle.acting_supervising.specs.Supervising.{cleared_of, followed_of, supervised_of}
use Rattle.rules.specs.declared.Ticked.{Ticked}
use Rattle.rules.specs.Acting.{finding_of}
use Rattle.rules.specs.Ticks.{refusal_in, outputs_in, is_out, out_of, refused_of, tick_of}
use Rattle.claim.specs.Claim.{Tick, rest_after, block_field, side_field, Lasting}
use Rattle.rules.specs.Lists.{seen}
use Rattle.rules.proofs.Next.{tick_lasting}
use Rattle.rules.proofs.Shown.{given, contacts_at, sensed_at, supervised_at, blocks_at, drive_at_lem, live_at, live_drive, live_settings, live_accepted, live_on, live_moving, live_automatic, live_opposed, live_level, flag_on, flag_off, flag_rests, level_side}

-- ---- a tick of a list

abbrev pub tick_at : Bool → Regulator → Input → Tick
tick_at rest r i = seen rest r i (tick_of r i)

abbrev pub next_at : Regulator → Input → Regulator
next_at r i = (tick_of r i).next

abbrev pub rest_at : Regulator → Input → Bool
rest_at r i = rest_after (outputs_in (tick_of r i).reply)

-- the wait to a side
abbrev pub wait_to : Direction → Regulator → ℕ
wait_to d r = waited_of d r.state.memory.wait

-- rest as the outputs tell it is rest as the record has it
abbrev pub Linked : Bool → Regulator → Type 0
Linked rest r = within_of r ≡ true → rest ≡ rests_of r.state.drive

-- ---- refused, out or in service

module _ (r : Regulator) (i : Input) where
  -- what holds of a tick in each of its three cases
  pub tick_cases : (P : Ticked Regulator → Type 0) → (within_of r ≡ false → P (refused_of r)) → (within_of r ≡ true → is_out r (contacts_at i) ≡ true → P (out_of r))
      → (within_of r ≡ true → is_out r (contacts_at i) ≡ false → P (live_at r i)) → P (tick_of r i)
  unfolding tick_of
  tick_cases P refused out live =
      chosen P (within_of r) _ _ (λ h. chosen P _ _ _ (λ o. out h o) (λ o. live h o)) (λ h. refused h)

  pub live_is : within_of r ≡ true → is_out r (contacts_at i) ≡ false → tick_of r i ≡ live_at r i
  unfolding tick_of
  live_is h o = sym (yes _ _ _ _ h (no _ _ _ _ o refl))

  pub out_is : within_of r ≡ true → is_out r (contacts_at i) ≡ true → tick_of r i ≡ out_of r
  unfolding tick_of
  out_is h o = sym (yes _ _ _ _ h (yes _ _ _ _ o refl))

  pub accepted_is : (refusal_in (tick_of r i).reply) ≡ choose (within_of r) 0 4
  unfolding refused_of out_of
  accepted_is =
      tick_cases (λ (t : Ticked Regulator). (refusal_in t.reply) ≡ choose (within_of r) 0 4) (λ h. no _ _ _ _ h refl) (λ h o. yes _ _ _ _ h refl)
      (λ h o. yes _ _ _ _ h (live_accepted r i))

  pub accepted_within : (refusal_in (tick_of r i).reply) ≡ 0 → within_of r ≡ true
  unfolding refused_of
  accepted_within =
      tick_cases (λ (t : Ticked Regulator). (refusal_in t.reply) ≡ 0 → within_of r ≡ true) (λ h e. absurd (omega arith)) (λ h o e. h) (λ h o e. h)

  pub settings_kept : (next_at r i).settings ≡ r.settings
  unfolding refused_of out_of fresh_of
  settings_kept = tick_cases (λ (t : Ticked Regulator). t.next.settings ≡ r.settings) (λ h. refl) (λ h o. refl) (λ h o. live_settings r i)

  pub within_kept : within_of (next_at r i) ≡ within_of r
  within_kept = tick_lasting r i

  pub linked_kept : within_of r ≡ true → rest_at r i ≡ rests_of (next_at r i).state.drive
  unfolding out_of fresh_of
  linked_kept w =
      tick_cases (λ (t : Ticked Regulator). rest_after (outputs_in t.reply) ≡ rests_of t.next.state.drive) (λ h. absurd (true≢false (sym w ∙ h))) (λ h o. refl)
      (λ h o. ap (λ (n : ℕ). eqb n 0) (live_moving r i) ∙ flag_rests (rests_of (drive_at_lem r i)) ∙ ap rests_of (sym (live_drive r i)))

  pub never_both_lem : given 0 (tick_of r i) ≡ 1 → given 1 (tick_of r i) ≡ 1 → ⊥
  unfolding refused_of out_of
  never_both_lem =
      tick_cases (λ (t : Ticked Regulator). given 0 t ≡ 1 → given 1 t ≡ 1 → ⊥) (λ h p q. omega arith) (λ h o p q. omega arith)
      (λ h o p q.
      one_way (on_of (drive_at_lem r i) (slot r.settings t7)) (flag_on _ (sym (live_on r i Raise) ∙ p)) (flag_on _ (sym (live_on r i Lower) ∙ q)))

-- ---- a tick in service, lasting to a side

-- what the rules before rule 7 have found, the latch after reset, and the drive that rule 7 gives, whatever its kind
abbrev pub finding_at : Regulator → Input → Finding
finding_at r i = finding_of (sensed_at r i)

abbrev pub cleared_at : Regulator → Input → Latch
cleared_at r i = cleared_of (contacts_at i) r.state.latch

abbrev pub followed_at : Drive → Regulator → Input → Followed
followed_at d r i = followed_of r.settings (contacts_at i) (finding_at r i) d (cleared_at r i) r.state.wear.last

module _ (r : Regulator) (i : Input) where
  pub followed_is : (supervised_at r i).drive ≡ (followed_at r.state.drive r i).drive
  unfolding supervised_of
  followed_is = refl

  pub no_fault_before : is_fault (supervised_at r i).latch.fault ≡ false
      → (is_fault (followed_at r.state.drive r i).fault ≡ false) × (is_fault (cleared_at r i).fault ≡ false)
  unfolding supervised_of latched_of
  no_fault_before e = later_none _ _ e

  pub blocks_no_fault : (blocks_at r i).automatic ≡ false → is_fault (supervised_at r i).latch.fault ≡ false
  unfolding blocked_of
  blocks_no_fault e = automatic_no_fault r.settings (contacts_at i) _ e

  pub blocks_not_local : (blocks_at r i).automatic ≡ false → (contacts_at i).local_drive ≡ false
  unfolding blocked_of
  blocks_not_local e = automatic_not_local r.settings (contacts_at i) _ e

  not_out_lem : slot r.settings in_service ≡ 1 → (contacts_at i).out ≡ false → is_out r (contacts_at i) ≡ false
  unfolding is_out
  not_out_lem e o = rw (e, o)

-- what a lasting tick is
pub record Live (d : Direction) (r : Regulator) (i : Input) : Type 0 where
  pub within : within_of r ≡ true
  pub is : tick_of r i ≡ live_at r i
  pub automatic : (contacts_at i).automatic ≡ true
  pub side : side_of (sensed_at r i).assessed.level ≡ Some d
  pub mode : (blocks_at r i).automatic ≡ false
  pub direction : opposed_of (blocks_at r i) d ≡ false
  pub fault : is_fault (supervised_at r i).latch.fault ≡ false

pub live_of : (d : Direction) (rest : Bool) (r : Regulator) (i : Input) → Lasting d (tick_at rest r i) → Live d r i
live_of d rest r i l =
    let w = accepted_within r i l.accepted in
    let e = live_is r i w (not_out_lem r i l.in_service l.not_out) in
    let m : (blocks_at r i).automatic ≡ false = flag_off _ (sym (live_automatic r i) ∙ sym (ap (given 13) e) ∙ l.mode_free) in
    record {
      within = w;
      is = e;
      automatic = l.automatic;
      side = level_side d _ (flag_on _ (sym (live_level r i d) ∙ sym (ap (given (side_field d)) e) ∙ l.deviates));
      mode = m;
      direction = flag_off _ (sym (live_opposed r i d) ∙ sym (ap (given (block_field d)) e) ∙ l.side_free);
      fault = blocks_no_fault r i m;
    }
