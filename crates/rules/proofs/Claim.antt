-- Demand 3 holds of every list of ticks.
-- Assumes nothing.
use mathlib.Core.Path.{◌≡◌, refl, sym, ap, ◌∙◌, subst}
use mathlib.Core.List.{List, ◌∷◌}
use Rattle.drive_follow.specs.Follow.{rests_of}
use Rattle.input.specs.declared.Input.{Input}
use Rattle.record.specs.declared.Regulator.{Regulator}
use Rattle.record_limits.specs.Limits.{within_of}
use Rattle.rules.specs.declared.Ticked.{Ticked}
use Rattle.rules.specs.Ticks.{tick_of}
use Rattle.claim.specs.Claim.{output, mode_field, block_field, Begins, Kept}
use Rattle.rules.specs.Lists.{ticks_from, list_from, opening}
use Rattle.rules.proofs.Next.{tick_lasting}
use Rattle.rules.proofs.Steps.{Linked, never_both_lem}
use Rattle.rules.proofs.Waits.{begun_free}
use Rattle.rules.proofs.Rows.{all_ticks, refused_of_lem, latest_of, exactly_of}
use Rattle.rules.proofs.Serve.{again_of}

-- every list of ticks on any record keeps demand 3
pub kept : (r : Regulator) (is : List Input) → Kept (opening r) (ticks_from (rests_of r.state.drive) r is)
kept r is =
    let k : Linked (rests_of r.state.drive) r = λ _. refl in
    record {
      refused = refused_of_lem (within_of r) (rests_of r.state.drive) r is refl;
      never_both =
          all_ticks (λ t. output 0 t ≡ 1 → output 1 t ≡ 1 → ⊥) (λ rest q i _. never_both_lem q i) (rests_of r.state.drive) r is k;
      unblocked =
          λ d.
          all_ticks (λ t. Begins d t → (output (mode_field t.contacts) t ≡ 0) × (output (block_field d) t ≡ 0))
          (λ rest q i l b. begun_free d rest q i l b) (rests_of r.state.drive) r is k;
      latest = λ d. latest_of d (rests_of r.state.drive) r is k;
      exactly = λ d n. exactly_of d (rests_of r.state.drive) r is k n;
      again = λ d. again_of d (rests_of r.state.drive) r is k;
    }

-- the list that a call opens, once the call gave what `tick_of` says
pub kept_from : (r : Regulator) (i : Input) (t : Ticked Regulator) → t ≡ tick_of r i → (later : List Input) → Kept (opening r) (list_from r i t later)
kept_from r i t e later = subst (λ (u : Ticked Regulator). Kept (opening r) (list_from r i u later)) (sym e) (kept r (i ∷ later))

-- all that a call promises, from the first
pub promised : (r : Regulator) (i : Input) {t : Ticked Regulator} → t ≡ tick_of r i
    → (t ≡ tick_of r i) × ((within_of t.next ≡ within_of r) × ((later : List Input) → Kept (opening r) (list_from r i t later)))
promised r i {t} e = (e, (ap (λ (u : Ticked Regulator). within_of u.next) e ∙ tick_lasting r i, kept_from r i t e))
