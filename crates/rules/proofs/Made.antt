-- The stages make the tick: each law is over plain values, as the functions have them, and `search` finds it.
-- Assumes nothing.
use mathlib.Core.Path.{◌≡◌, refl, sym, ap, ◌∙◌}
use mathlib.Core.Bool.{Bool, true, false, ◌||◌}
use mathlib.Core.List.{List}
use Prim.Native.Nat.{ℕ}
use Rattle.std.specs.Prelude.{Ok}
use lib.Dec.{eqb}
use Rattle.slots.specs.Slots.{slot, in_service}
use Rattle.common.proofs.Cases.{yes, no}
use Rattle.input.specs.declared.Contacts.{Contacts}
use Rattle.input.specs.declared.Input.{Input}
use Rattle.input.specs.Brought.{contacts_of}
use Rattle.sensing.specs.declared.Sensed.{Sensed}
use Rattle.rules.specs.declared.Acted.{Acted}
use Rattle.showing.specs.declared.Shown.{Shown}
use Rattle.showing.specs.Showing.{outputs_of}
use Rattle.record.specs.declared.Regulator.{Regulator}
use Rattle.record.specs.declared.State.{State}
use Rattle.record_limits.specs.Limits.{within_of}
use Rattle.rules.specs.declared.Ticked.{Ticked}
use Rattle.rules.specs.Ticks.{sensed_in, acted_in, shown_of, state_of, end_of, ran_of, is_out, out_of, refused_of, tick_of, stepped_of}
use Rattle.rules.proofs.Steps.{settings_kept}

module _ (r : Regulator) (i : Input) (c : Contacts) where
  pub live_made : {x : Sensed} {y : Acted} {shown : Shown} {outputs : List ℕ} {state : State}
      → x ≡ sensed_in r i c
      → y ≡ acted_in r c x
      → shown ≡ shown_of c x y
      → outputs ≡ outputs_of r.settings shown
      → state ≡ state_of x y
      → ◌≡◌ {A = Ticked State} (record { reply = Ok outputs; next = state }) (stepped_of (ran_of r i c))
  unfolding ran_of end_of
  live_made p q s u n = rw (u, n, s, q, p)

-- the three ways of a step
module _ (r : Regulator) (i : Input) {t : Ticked State} {b : Bool} (w : b ≡ within_of r) where
  pub step_out : {c : Contacts} → c ≡ contacts_of i.contacts → b ≡ true → (eqb (slot r.settings in_service) 0 || c.out) ≡ true → t ≡ stepped_of (out_of r)
      → t ≡ stepped_of (tick_of r i)
  unfolding tick_of is_out
  step_out e p q u = u ∙ ap stepped_of (yes _ _ _ _ (sym w ∙ p) (yes _ _ _ _ (sym (ap (is_out r) e) ∙ q) refl))

  pub step_live : {c : Contacts} → c ≡ contacts_of i.contacts → b ≡ true → (eqb (slot r.settings in_service) 0 || c.out) ≡ false
      → t ≡ stepped_of (ran_of r i c) → t ≡ stepped_of (tick_of r i)
  unfolding tick_of is_out
  step_live e p q u = u ∙ ap stepped_of (yes _ _ _ _ (sym w ∙ p) (no _ _ _ _ (sym (ap (is_out r) e) ∙ q) (ap (ran_of r i) e)))

  pub step_refused : b ≡ false → t ≡ stepped_of (refused_of r) → t ≡ stepped_of (tick_of r i)
  unfolding tick_of
  step_refused p u = u ∙ ap stepped_of (no _ _ _ _ (sym w ∙ p) refl)

-- a step of the record's state, with its settings put back, is the tick
pub tick_made : (r : Regulator) (i : Input) {t : Ticked State} → t ≡ stepped_of (tick_of r i)
    → ◌≡◌ {A = Ticked Regulator} (record { reply = t.reply; next = record { settings = r.settings; state = t.next } }) (tick_of r i)
tick_made r i e =
    ap (λ (u : Ticked State). record { reply = u.reply; next = record { settings = r.settings; state = u.next } }) e
    ∙ ap (λ (s : List ℕ). record { reply = (tick_of r i).reply; next = record { settings = s; state = (tick_of r i).next.state } }) (sym (settings_kept r i))
