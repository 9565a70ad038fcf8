-- A memory over one tick: refused, out, or in service.
-- Assumes nothing.
use Prim.Native.Nat.{ℕ}
use native.Mathlib.Omega.{arith}
use mathlib.Core.Path.{◌≡◌, refl, sym, ap, ◌∙◌, subst}
use mathlib.Core.Bool.{Bool, true, false, true≢false}
use mathlib.Core.Logic.{◌⊎◌, inl, inr, ⊎_elim, ◌↔◌}
use Rattle.common.proofs.Joined.{split, and_left}
use Rattle.slots.specs.Slots.{slot, t7}
use Rattle.ways.specs.declared.Direction.{Direction}
use Rattle.ways.specs.declared.Direction.TheVariants.{Raise, Lower}
use Rattle.std.specs.Prelude.{Option}
use Rattle.std.specs.Prelude.{None, Some}
use Rattle.ways.proofs.Cases.{is_to_self}
use Rattle.drive_follow.specs.Follow.{rests_of}
use Rattle.drive_shown.specs.Shown.{on_of}
use Rattle.input.specs.declared.Input.{Input}
use Rattle.command_deciding.proofs.Sound.{decided_sound}
use Rattle.acting_commanding.specs.Commanding.{ask_of, situation_of}
use Rattle.showing.specs.Showing as showing
use Rattle.record.specs.declared.Regulator.{Regulator}
use Rattle.record_limits.specs.Limits.{within_of}
use Rattle.record_starting.specs.Starting.{fresh_of}
use Rattle.claim.specs.Claim.{Tick, Accepted, Begins, Command, command_field}
use Rattle.claim.specs.Runs.{At}
use Rattle.rules.specs.Lists.{left_by}
use Rattle.rules.specs.Ticks.{is_out, out_of}
use Rattle.rules.proofs.Shown.{given, contacts_at, supervised_at, situation_at, decided_at, live_at, on_to, live_on}
use Rattle.rules.proofs.Steps.{tick_at, next_at, Linked, live_is, out_is, accepted_within}
use Rattle.rules.proofs.Rows.{linked_step}
use Rattle.rules.proofs.Waits.{begun}
use Rattle.history.specs.Pasts.{Out, Ran}
use Rattle.history.proofs.Fields.{refused_next, out_next, live_next, told_out, out_told, accepts}

-- what holds all along a list: rest as the outputs tell it is rest as the record has it
abbrev pub Along : At Regulator → Type 0
Along a = Linked a.rest a.got

pub along : (a : At Regulator) (i : Input) → Along a → Along (left_by a i)
along a i k = linked_step a.rest a.got i

-- `H` is a memory that the fresh record does not hold; `S` says that the tick sets it, `K` that it keeps it, where it is accepted
module _ (rest : Bool) (r : Regulator) (i : Input) (H : Regulator → Type 0) (S K : Type 0)
    (ran : S → Ran (tick_at rest r i)) (inside : K → Out (tick_at rest r i) → ⊥) (fresh : H (fresh_of r.settings) → ⊥)
    (live : within_of r ≡ true → is_out r (contacts_at i) ≡ false → H (live_at r i).next ↔ (S ⊎ (H r × K))) where
  abbrev t : Tick
  t = tick_at rest r i

  abbrev Stepped : Type 0
  Stepped = H (next_at r i) ↔ (S ⊎ (H r × (Accepted t → K)))

  refused : within_of r ≡ false → Stepped
  refused h =
      let never : Accepted t → ⊥ = λ a. true≢false (sym (accepted_within r i a) ∙ h) in (
        λ p. inr (subst H (refused_next r i h) p, λ a. absurd (never a)),
        λ q. ⊎_elim (λ s. absurd (never (ran s).accepted)) (λ k. subst H (sym (refused_next r i h)) k.0) q,
      )

  out : within_of r ≡ true → is_out r (contacts_at i) ≡ true → Stepped
  out h o =
      let is = told_out r i rest o in (
        λ p. absurd (fresh (subst H (out_next r i h o) p)),
        λ q. ⊎_elim (λ s. absurd ((ran s).not_out is)) (λ k. absurd (inside (k.1 (accepts r i rest h)) is)) q,
      )

  in_service : within_of r ≡ true → is_out r (contacts_at i) ≡ false → Stepped
  in_service h o =
      let g = live h o in (
        λ p. ⊎_elim (λ s. inl s) (λ k. inr (k.0, λ _. k.1)) (g.0 (subst H (live_next r i h o) p)),
        λ q. subst H (sym (live_next r i h o)) (g.1 (⊎_elim (λ s. inl s) (λ k. inr (k.0, k.1 (accepts r i rest h))) q)),
      )

  pub stepped : H (next_at r i) ↔ (S ⊎ (H r × (Accepted (tick_at rest r i) → K)))
  stepped = ⊎_elim (λ h. ⊎_elim (out h) (in_service h) (split (is_out r (contacts_at i)))) refused (split (within_of r))

-- ---- a command that begins, and the one that rule 9 decides

pub command_of : (t : Tick) (d : Direction) → Begins d t → Command t
command_of t Raise b = inl b
command_of t Lower b = inr b

module _ (rest : Bool) (r : Regulator) (i : Input) (k : Linked rest r) where
  -- none begins on a tick that is out
  silent : (d : Direction) → given (command_field d) (out_of r) ≡ 0
  unfolding out_of
  silent Raise = refl
  silent Lower = refl

  pub begins_ran : (d : Direction) → Begins d (tick_at rest r i) → Ran (tick_at rest r i)
  begins_ran d b =
      record {
        accepted = b.accepted;
        not_out = λ o.
            let e = out_is r i (accepted_within r i b.accepted) (out_told r i rest o) in
            let z : ◌≡◌ {A = ℕ} 0 1 = sym (silent d) ∙ sym (ap (given (command_field d)) e) ∙ b.on in
            omega arith;
      }

  module _ (h : within_of r ≡ true) (o : is_out r (contacts_at i) ≡ false) where
    pub decided_begins : (d : Direction) → (decided_at r i).command ≡ Some d → Begins d (tick_at rest r i)
    unfolding situation_of ask_of on_of
    decided_begins d c =
        record {
          accepted = accepts r i rest h;
          from_rest = k h ∙ and_left (rests_of r.state.drive) _ ((decided_sound r.settings (situation_at r i)).begins d c).resting;
          on =
              ap (given (command_field d)) (live_is r i h o) ∙ live_on r i d
              ∙ ap showing.bit_of (ap (λ (v : Option Direction). on_to d (ask_of (supervised_at r i).drive (contacts_at i).automatic v) (slot r.settings t7)) c ∙ is_to_self d);
        }

    none_of_lem : (w : Option Direction) → (decided_at r i).command ≡ w → (Command (tick_at rest r i) → ⊥) → (decided_at r i).command ≡ None
    none_of_lem None e n = e
    none_of_lem (Some d) e n = absurd (n (command_of _ d (decided_begins d e)))

    pub none_decided : (Command (tick_at rest r i) → ⊥) → (decided_at r i).command ≡ None
    none_decided n = none_of_lem (decided_at r i).command refl n

  begins_to : (d : Direction) → (decided_at r i).command ≡ None → Begins d (tick_at rest r i) → ⊥
  begins_to d e b = let z : Some d ≡ None = sym (begun d rest r i k b).command ∙ e in let y : ◌≡◌ {A = ℕ} 0 1 = cc in omega arith

  pub none_begins : (decided_at r i).command ≡ None → Command (tick_at rest r i) → ⊥
  none_begins e (inl b) = begins_to Raise e b
  none_begins e (inr b) = begins_to Lower e b
