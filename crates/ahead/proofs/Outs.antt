-- A tick that is out, repeated.
-- Assumes nothing.
use Prim.Native.Nat.{ℕ, zero, suc}
use mathlib.Core.Path.{◌≡◌, refl, ap, ◌∙◌}
use mathlib.Core.Bool.{true, ◌||◌, false≢true}
use mathlib.Core.List.{List}
use mathlib.Core.Logic.{inl, inr, ⊎_elim}
use lib.Dec.{eqb}
use Rattle.slots.specs.Slots.{slot, in_service}
use Rattle.ways.specs.declared.Direction.{Direction}
use Rattle.ways.specs.declared.Direction.TheVariants.{Raise, Lower}
use Rattle.std.specs.Prelude.{None, Some}
use Rattle.input.specs.declared.Input.{Input}
use Rattle.record.specs.declared.Regulator.{Regulator}
use Rattle.record_limits.specs.Limits.{within_of}
use Rattle.record_starting.specs.Starting.{fresh_of}
use Rattle.claim.specs.Claim.{Command}
use Rattle.claim.specs.Runs.{At}
use Rattle.rules.specs.declared.Ticked.{Ticked}
use Rattle.rules.specs.Ticks.{outputs_in, all_off, is_out, out_of, tick_of}
use Rattle.rules.specs.Lists.{seen_on, starts_on}
use Rattle.rules.proofs.Shown.{contacts_at}
use Rattle.rules.proofs.Steps.{Linked, out_is}
use Rattle.history.proofs.Fields.{told_out}
use Rattle.history.proofs.Steps.{begins_ran}
use Rattle.ahead.specs.Looking.{Answer, looked_on, begun_by, stands_at, as_given, is_horizon, ahead_of}
use Rattle.ahead.specs.Words.{after_ticks}
use Rattle.ahead.proofs.Begun.{begins_to}
use Rattle.ahead.proofs.Found.{last_of, looked}
use Rattle.ahead.proofs.Laws.{within_after, settings_after, linked_after, last_is, look_is}

module _ (i : Input) where
  -- no tick that is out begins a command
  silent : (a : At Regulator) → Linked a.rest a.got → is_out a.got (contacts_at i) ≡ true → Command (seen_on a i) → ⊥
  silent a k o (inl b) = (begins_ran a.rest a.got i k _ b).not_out (told_out a.got i a.rest o)
  silent a k o (inr b) = (begins_ran a.rest a.got i k _ b).not_out (told_out a.got i a.rest o)

  out_after : (a : At Regulator) (n : ℕ) → is_out (after_ticks a i n).got (contacts_at i) ≡ is_out a.got (contacts_at i)
  unfolding is_out
  out_after a n = ap (λ (s : List ℕ). eqb (slot s in_service) 0 || (contacts_at i).out) (settings_after i a n)

-- what stands: no command, outputs 0, the fresh record
abbrev pub at_rest : List ℕ → Answer
at_rest settings = record { refusal = 0; tick = 0; way = None; outputs = all_off; next = fresh_of settings }

module _ (r : Regulator) (i : Input) (h : within_of r ≡ true) (o : is_out r (contacts_at i) ≡ true) where
  left_by_lem : (q : Regulator) → within_of q ≡ true → is_out q (contacts_at i) ≡ true → (a : At Regulator) → a.got ≡ q
      → stands_at 0 None (looked_on a i) ≡ at_rest q.settings
  unfolding out_of
  left_by_lem q w u a e =
      ap (λ (t : Ticked Regulator). record { refusal = 0; tick = 0; way = None; outputs = outputs_in t.reply; next = t.next })
      (ap (λ (p : Regulator). tick_of p i) e ∙ out_is q i w u)

  after_out : (n : ℕ) → is_horizon n ≡ true → last_of i (as_given 0 r) (starts_on r) n ≡ at_rest r.settings
  after_out zero k = absurd (false≢true k)
  after_out (suc n) k =
      let a = after_ticks (starts_on r) i n in
      last_is i (as_given 0 r) (starts_on r) n
      ∙ left_by_lem a.got (within_after i (starts_on r) n ∙ h) (out_after i (starts_on r) n ∙ o) a refl
      ∙ ap at_rest (settings_after i (starts_on r) n)

  -- it is no refusal: no command, outputs 0, and the fresh record
  pub out_repeated : (n : ℕ) → is_horizon n ≡ true → ahead_of r i n ≡ at_rest r.settings
  out_repeated n k =
      look_is r i n h k
      ∙ ⊎_elim
      (λ f.
      absurd
      (begun_out (after_ticks (starts_on r) i f.before) (linked_after i (starts_on r) f.before (λ _. refl)) (out_after i (starts_on r) f.before ∙ o) f.direction f.begins))
      (λ f. f.is ∙ after_out n k)
      (looked i (starts_on r) n 0 (as_given 0 r))
    where
      begun_out : (a : At Regulator) → Linked a.rest a.got → is_out a.got (contacts_at i) ≡ true → (d : Direction) → begun_by (seen_on a i) ≡ Some d → ⊥
      begun_out a l u Raise e = silent i a l u (inl (begins_to _ Raise e))
      begun_out a l u Lower e = silent i a l u (inr (begins_to _ Lower e))
