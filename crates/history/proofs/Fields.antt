-- What a tick in service leaves of each memory; out, and refused.
-- Assumes nothing.
use mathlib.Core.Path.{◌≡◌, refl, sym, ap, ◌∙◌}
use mathlib.Core.Bool.{Bool, true, false, true≢false}
use mathlib.Core.Logic.{inl, inr, ⊎_elim}
use borrow.Author.Tests.{eqb-true, eq-eqb}
use lib.Dec.{eqb}
use Rattle.common.proofs.Cases.{yes, no}
use Rattle.common.proofs.Joined.{or_is, or_true, split}
use Rattle.slots.specs.Slots.{slot, in_service}
use Rattle.busbar_level.specs.Levels.{side_of, is_in_band}
use Rattle.input.specs.declared.Input.{Input}
use Rattle.command_automatic.specs.Automatic.{repeat_of}
use Rattle.acting_commanding.specs.Commanding.{decision_of, kept_press_of, regulated_of}
use Rattle.record.specs.declared.Regulator.{Regulator}
use Rattle.record_limits.specs.Limits.{within_of}
use Rattle.record_starting.specs.Starting.{fresh_of}
use Rattle.claim.specs.Claim.{Accepted}
use Rattle.rules.specs.Acting.{acted_of}
use Rattle.rules.specs.Ticks.{end_of, ran_of, is_out, out_of, refused_of, tick_of}
use Rattle.rules.specs.declared.Ticked.{Ticked}
use Rattle.rules.proofs.Shown.{contacts_at, sensed_at, supervised_at, decided_at, live_at}
use Rattle.rules.proofs.Steps.{tick_at, next_at, live_is, out_is, accepted_is}
use Rattle.rules.proofs.Values.{noted_in, accounted_in}
use Rattle.history.specs.Pasts.{Out}

module _ (r : Regulator) (i : Input) where
  pub live_repeat : (live_at r i).next.state.memory.repeat
      ≡ repeat_of (contacts_at i).automatic (is_in_band (sensed_at r i).assessed.level) (side_of (sensed_at r i).assessed.level) (decided_at r i).command r.state.memory.repeat
  unfolding ran_of end_of acted_of regulated_of decision_of
  live_repeat = refl

  pub live_keys : (live_at r i).next.state.memory.keys ≡ (contacts_at i).keys
  unfolding ran_of end_of acted_of regulated_of
  live_keys = refl

  pub live_remembered : (live_at r i).next.state.memory.remembered
      ≡ kept_press_of (contacts_at i) (supervised_at r i).latch.fault (noted_in r (contacts_at i) (sensed_at r i))
  unfolding ran_of end_of acted_of regulated_of
  live_remembered = refl

  pub live_latch : (live_at r i).next.state.latch ≡ (supervised_at r i).latch
  unfolding ran_of end_of acted_of
  live_latch = refl

  pub live_wear : (live_at r i).next.state.wear ≡ (accounted_in r (supervised_at r i)).wear
  unfolding ran_of end_of acted_of
  live_wear = refl

  -- refused: "the record left as it was"
  pub refused_next : within_of r ≡ false → next_at r i ≡ r
  unfolding tick_of refused_of
  refused_next h = ap (λ (t : Ticked Regulator). t.next) (sym (no _ _ _ _ h refl))

  -- out: "the record becomes the fresh one"
  pub out_next : within_of r ≡ true → is_out r (contacts_at i) ≡ true → next_at r i ≡ fresh_of r.settings
  unfolding out_of
  out_next h o = ap (λ (t : Ticked Regulator). t.next) (out_is r i h o)

  pub live_next : within_of r ≡ true → is_out r (contacts_at i) ≡ false → next_at r i ≡ (live_at r i).next
  live_next h o = ap (λ (t : Ticked Regulator). t.next) (live_is r i h o)

  module _ (rest : Bool) where
    -- out, as the tick shows it
    pub told_out : is_out r (contacts_at i) ≡ true → Out (tick_at rest r i)
    unfolding is_out
    told_out o = ⊎_elim (λ p. inl (eqb-true _ _ p)) (λ p. inr p) (or_is _ _ o)

    pub out_told : Out (tick_at rest r i) → is_out r (contacts_at i) ≡ true
    unfolding is_out
    out_told (inl p) = rw (eq-eqb (slot r.settings in_service) 0 p) refl
    out_told (inr p) = rw p (or_true (eqb (slot r.settings in_service) 0))

    pub not_out_lem : (Out (tick_at rest r i) → ⊥) → is_out r (contacts_at i) ≡ false
    not_out_lem n = ⊎_elim (λ o. absurd (n (told_out o))) (λ o. o) (split (is_out r (contacts_at i)))

    pub not_told : is_out r (contacts_at i) ≡ false → Out (tick_at rest r i) → ⊥
    not_told o b = true≢false (sym (out_told b) ∙ o)

    -- accepted: within its limits
    pub accepts : within_of r ≡ true → Accepted (tick_at rest r i)
    accepts h = accepted_is r i ∙ sym (yes _ _ _ _ h refl)
