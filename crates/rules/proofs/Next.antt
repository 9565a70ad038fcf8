-- The tick keeps a record within its limits, and leaves a refused one as it was.
-- Assumes nothing.
use mathlib.Core.Path.{◌≡◌, refl, sym, ◌∙◌}
use mathlib.Core.Bool.{Bool, true, false, ◌&&◌}
use Prim.Native.Nat.{◌≤◌}
use native.Mathlib.Omega.{arith}
use borrow.Author.Tests.{le-leb, leb-true}
use lib.Dec.{leb}
use Rattle.common.proofs.Cases.{chosen}
use Rattle.slots.specs.Slots.{slot, t4, n_l, n_r}
use Rattle.sheet.specs.Sheet.{passes_of}
use Rattle.common.proofs.Joined.{and_left, and_right, and_four}
use Rattle.sheet.proofs.Laws.{t4_range}
use Rattle.organ_limits.specs.Limits.{organs_within}
use Rattle.organ_limits.proofs.Within.{all_step_within}
use Rattle.std.specs.Prelude.{Option, None, Some}
use Rattle.ways.specs.declared.Direction.{Direction}
use Rattle.drive_follow.specs.Follow.{rests_of}
use Rattle.fault.specs.Latches.{is_fault, latched_of}
use Rattle.fault.proofs.Kept.{latched_within}
use Rattle.tap_counted.proofs.Steps.{counted_kept}
use Rattle.input.specs.declared.Contacts.{Contacts}
use Rattle.input.specs.declared.Input.{Input}
use Rattle.input.specs.Brought.{contacts_of}
use Rattle.blocks.proofs.Laws.{fault_blocks_automatic, fault_blocks_manual}
use Rattle.command.specs.declared.Decided.{Decided}
use Rattle.command.specs.declared.Situation.{Situation}
use Rattle.command_deciding.proofs.Sound.{Sound, decided_sound, mode_blocked}
use Rattle.record_limits.specs.Limits.{kind_within, motion_within, press_within, counts_within, within_of, delays_of}
use Rattle.record.specs.declared.Regulator.{Regulator}
use Rattle.record_starting.proofs.Starts.{fresh_within}
use Rattle.acting_accounting.specs.Accounting.{most_operations, accounted_of}
use Rattle.acting_judging.specs.Judging.{blocked_of}
use Rattle.acting_commanding.specs.Commanding.{ask_of, situation_of, decision_of, kept_press_of, regulated_of}
use Rattle.sensing_protecting.specs.Protecting.{protected_of}
use Rattle.acting_supervising.specs.Supervising.{supervised_of}
use Rattle.acting_supervising.specs.declared.Supervised.{Supervised}
use Rattle.sensing.specs.declared.Sensed.{Sensed}
use Rattle.rules.specs.declared.Ticked.{Ticked}
use Rattle.sensing.specs.Sensing.{sensed_of}
use Rattle.rules.specs.Acting.{finding_of}
use Rattle.rules.specs.Acting.{acted_of}
use Rattle.rules.specs.Ticks.{memory_in, sensed_in, end_of, ran_of, out_of, refused_of, tick_of}
use Rattle.rules.proofs.Values.{supervised_in, blocked_in, noted_in, accounted_in}
use Rattle.rules.proofs.Lasting.{Parts, motion_parts, motion_kept, fault_rests, kind_after, kept_press, delays_are, operations_most}

module _ (r : Regulator) (h : within_of r ≡ true) where
  pub pass : passes_of r.settings ≡ true
  unfolding within_of
  pass = and_left _ _ (and_left _ _ (and_left _ _ h))

  pub motion : Parts r.settings r.state.drive r.state.memory.wait r.state.latch
  unfolding within_of
  motion = motion_parts _ _ _ _ (and_right (passes_of r.settings) _ (and_left _ _ (and_left _ _ h)))

  counts : counts_within r.settings r.state.organs r.state.wear ≡ true
  unfolding within_of
  counts =
      and_right
      (passes_of r.settings && motion_within r.settings r.state.drive r.state.memory.wait r.state.latch && press_within r.state.latch.fault r.state.memory.remembered)
      _ h

  module _ (c : Contacts) (x : Sensed) where
    abbrev v : Supervised
    v = supervised_in r c x

    abbrev situated : Situation
    situated = situation_of c x.assessed (blocked_in r c x v) (memory_in r) r.state.drive v.drive

    abbrev decided : Decided
    decided = decision_of r.settings c x.assessed (blocked_in r c x v) (memory_in r) r.state.drive v.drive

    sound : Sound r.settings situated decided
    unfolding decision_of
    sound = decided_sound r.settings situated

    four_or_more : 1 ≤ slot r.settings t4
    four_or_more = omega (arith, (t4_range r.settings pass).0)

    -- a fault has the drive at rest, and lets no command begin
    rests_in_fault : is_fault v.latch.fault ≡ true → rests_of v.drive ≡ true
    unfolding supervised_of latched_of
    rests_in_fault e = fault_rests r.settings c (finding_of x) r.state.drive r.state.latch r.state.wear.last four_or_more motion.stopped _ refl e

    kind_kept : kind_within r.settings v.drive v.latch.fault ≡ true
    unfolding supervised_of latched_of
    kind_kept = kind_after r.settings c (finding_of x) r.state.drive r.state.latch r.state.wear.last four_or_more motion.stopped motion.moves

    mode_in_fault : is_fault v.latch.fault ≡ true → mode_blocked situated ≡ true
    unfolding situation_of blocked_of
    mode_in_fault e =
        chosen (λ b. b ≡ true) _ _ _ (λ p. fault_blocks_automatic r.settings c _ e) (λ p. fault_blocks_manual r.settings c _ e)

    no_command_lem : is_fault v.latch.fault ≡ true → (w : Option Direction) → decided.command ≡ w → decided.command ≡ None
    no_command_lem e None q = q
    no_command_lem e (Some d) q = let z : ◌≡◌ {A = Bool} true false = sym (mode_in_fault e) ∙ (sound.begins d q).mode in cc

    rest : situated.resting ≡ true → rests_of v.drive ≡ true
    unfolding situation_of
    rest e = and_right (rests_of r.state.drive) _ e

    next_motion : motion_within r.settings (ask_of v.drive c.automatic decided.command) decided.wait v.latch ≡ true
    unfolding supervised_of
    next_motion =
        motion_kept r.settings pass situated decided sound v.drive c.automatic v.latch rest kind_kept
        (λ e. (rests_in_fault e, no_command_lem e decided.command refl)) (latched_within _ _ _)

    next_counts : counts_within r.settings (protected_of r.settings r.state.organs x.observed.readings x.observed.section).organs (accounted_in r v).wear ≡ true
    unfolding counts_within protected_of accounted_of
    next_counts =
        let p =
        and_four (organs_within (delays_of r.settings) r.state.organs) (leb (slot r.settings n_l) r.state.wear.counted_tap)
        (leb r.state.wear.counted_tap (slot r.settings n_r)) (leb r.state.wear.operations most_operations) counts in
        let b = counted_kept r.settings r.state.wear.counted_tap (leb-true _ _ p.1) (leb-true _ _ p.2) v.ended in
        let o = operations_most r.settings r.state.wear.operations v.operation (leb-true _ _ p.3) in
        rw (← delays_are r.settings x.observed.readings x.observed.section, all_step_within, le-leb _ _ b.above, le-leb _ _ b.below, le-leb _ _ o)

    next_press : press_within v.latch.fault (kept_press_of c v.latch.fault (noted_in r c x)) ≡ true
    next_press = kept_press c v.latch.fault (noted_in r c x)

  pub next_within : (i : Input) (c : Contacts) → within_of (ran_of r i c).next ≡ true
  unfolding within_of ran_of end_of sensed_of acted_of regulated_of
  next_within i c = rw (pass, next_motion c (sensed_in r i c), next_press c (sensed_in r i c), next_counts c (sensed_in r i c))

-- the tick's next record is within its limits exactly if the record was
pub tick_lasting : (r : Regulator) (i : Input) → within_of (tick_of r i).next ≡ within_of r
unfolding tick_of out_of refused_of
tick_lasting r i =
    chosen (λ (t : Ticked Regulator). within_of t.next ≡ within_of r) (within_of r) _ _
    (λ h.
    chosen (λ (t : Ticked Regulator). within_of t.next ≡ within_of r) _ _ _
    (λ p. fresh_within r.settings (pass r h) ∙ sym h)
    (λ p. next_within r h i (contacts_of i.contacts) ∙ sym h))
    (λ h. refl)
