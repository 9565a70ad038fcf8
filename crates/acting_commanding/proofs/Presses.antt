-- What drops a remembered press (02, ticket 6).
-- Assumes nothing.
use mathlib.Core.Path.{◌≡◌, refl, sym, ap, ◌∙◌}
use mathlib.Core.Bool.{Bool, true, ◌||◌}
use Rattle.common.proofs.Cases.{yes}
use Rattle.common.proofs.Joined.{or_true}
use Rattle.input.specs.declared.Contacts.{Contacts}
use Rattle.fault.specs.declared.Fault.{Fault}
use Rattle.std.specs.Prelude.{Option, None}
use Rattle.fault.specs.Latches.{is_fault}
use Rattle.command_manual.specs.Manual.{remembered_of}
use Rattle.acting_commanding.specs.declared.Noted.{Noted}
use Rattle.acting_commanding.specs.Commanding.{drops_of, kept_press_of}

module _ (c : Contacts) (f : Option Fault) (n : Noted) where
  -- "fault, automatic, local drive and out drop it"
  dropped : drops_of c f ≡ true → kept_press_of c f n ≡ None
  unfolding kept_press_of remembered_of
  dropped e = sym (yes _ _ _ _ (ap (λ (b : Bool). n.rested || b) e ∙ or_true n.rested) refl)

  pub fault_drops : is_fault f ≡ true → kept_press_of c f n ≡ None
  unfolding drops_of
  fault_drops e = dropped (rw e refl)

  pub automatic_drops : c.automatic ≡ true → kept_press_of c f n ≡ None
  unfolding drops_of
  automatic_drops e = dropped (rw (e, or_true (is_fault f)) refl)

  pub local_drops : c.local_drive ≡ true → kept_press_of c f n ≡ None
  unfolding drops_of
  local_drops e = dropped (rw (e, or_true (is_fault f || c.automatic)) refl)

  -- a tick that starts with the drive at rest leaves none, be it carried out or dropped
  pub rest_leaves_none : n.rested ≡ true → kept_press_of c f n ≡ None
  unfolding kept_press_of remembered_of
  rest_leaves_none e = sym (yes _ _ _ _ (rw e refl) refl)
