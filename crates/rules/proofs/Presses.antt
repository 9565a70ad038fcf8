-- What a tick leaves of a remembered press (02, ticket 6), of every accepted record. `Worked` has worked lists.
-- Assumes nothing.
use mathlib.Core.Path.{◌≡◌, refl, sym, ◌∙◌}
use mathlib.Core.Bool.{true, false, true≢false}
use Rattle.std.specs.Prelude.{None}
use Rattle.drive_follow.specs.Follow.{rests_of}
use Rattle.fault.specs.Latches.{is_fault}
use Rattle.input.specs.declared.Contacts.{Contacts}
use Rattle.input.specs.declared.Input.{Input}
use Rattle.input.specs.Brought.{contacts_of}
use Rattle.record.specs.declared.Regulator.{Regulator}
use Rattle.record_limits.specs.Limits.{within_of}
use Rattle.record_starting.specs.Starting.{fresh_of}
use Rattle.acting_commanding.specs.Commanding.{kept_press_of, regulated_of}
use Rattle.acting_commanding.proofs.Presses.{fault_drops, automatic_drops, local_drops, rest_leaves_none}
use Rattle.rules.specs.declared.Ticked.{Ticked}
use Rattle.rules.proofs.Steps.{tick_cases}
use Rattle.rules.specs.Acting.{acted_of}
use Rattle.rules.specs.Ticks.{sensed_in, end_of, ran_of, is_out, out_of, tick_of}
use Rattle.rules.proofs.Values.{supervised_in, noted_in}

module _ (r : Regulator) (i : Input) (h : within_of r ≡ true) where
  abbrev c : Contacts
  c = contacts_of i.contacts

  -- rule 1's record holds none; else what rules 7 and 9 leave
  by_the_rules : (is_out r c ≡ false → kept_press_of c (supervised_in r c (sensed_in r i c)).latch.fault (noted_in r c (sensed_in r i c)) ≡ None) → (tick_of r i).next.state.memory.remembered ≡ None
  unfolding out_of fresh_of ran_of end_of acted_of regulated_of
  by_the_rules p =
      tick_cases r i (λ (t : Ticked Regulator). t.next.state.memory.remembered ≡ None) (λ w. absurd (true≢false (sym h ∙ w))) (λ _ _. refl) (λ _ o. p o)

  -- "fault, automatic, local drive and out drop it"
  pub dropped_by_fault : is_fault (supervised_in r c (sensed_in r i c)).latch.fault ≡ true → (tick_of r i).next.state.memory.remembered ≡ None
  dropped_by_fault e = by_the_rules (λ _. fault_drops c _ (noted_in r c (sensed_in r i c)) e)

  pub dropped_by_automatic : c.automatic ≡ true → (tick_of r i).next.state.memory.remembered ≡ None
  dropped_by_automatic e = by_the_rules (λ _. automatic_drops c _ (noted_in r c (sensed_in r i c)) e)

  pub dropped_by_local_drive : c.local_drive ≡ true → (tick_of r i).next.state.memory.remembered ≡ None
  dropped_by_local_drive e = by_the_rules (λ _. local_drops c _ (noted_in r c (sensed_in r i c)) e)

  pub dropped_by_out : is_out r c ≡ true → (tick_of r i).next.state.memory.remembered ≡ None
  dropped_by_out e = by_the_rules (λ o. absurd (true≢false (sym e ∙ o)))

  -- carried out or dropped "on the first tick that starts with the drive at rest", and never kept past it
  pub never_past_rest : rests_of r.state.drive ≡ true → (tick_of r i).next.state.memory.remembered ≡ None
  never_past_rest e = by_the_rules (λ _. rest_leaves_none c _ (noted_in r c (sensed_in r i c)) e)
