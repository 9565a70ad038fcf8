-- Demand 3 of a list whose ticks are all refused: none waits, and none begins a command.
-- Assumes nothing.
use native.Mathlib.Omega.{arith}
use mathlib.Core.Path.{◌≡◌, subst}
use mathlib.Core.Bool.{false}
use mathlib.Core.List.{List, ◌∷◌, ◌++◌}
use Rattle.common.proofs.Cases.{no}
use Rattle.claim.specs.Claim.{Tick, Opening, output, All, Accepted, Kept}
use Rattle.claim.proofs.Lists.{all_back, all_map}

-- refused with 4, raise off
abbrev pub Refused : Tick → Type 0
Refused t = (t.refusal ≡ 4) × (output 0 t ≡ 0)

never : (t : Tick) → Refused t → Accepted t → ⊥
never t h a = omega (arith, h.0)

module _ (o : Opening) (l : List Tick) (outside : o.within ≡ false) (all : All Refused l) where
  -- a tick of the list
  at : (pre : List Tick) (t : Tick) (post : List Tick) → l ≡ pre ++ (t ∷ post) → Refused t
  at pre t post e = (all_back Refused pre (t ∷ post) (subst (All Refused) e all)).0

  row_at : (pre front : List Tick) (t : Tick) (post : List Tick) → l ≡ pre ++ (front ++ (t ∷ post)) → Refused t
  row_at pre front t post e =
      (all_back Refused front (t ∷ post) (all_back Refused pre (front ++ (t ∷ post)) (subst (All Refused) e all))).0

  pub refused_kept : Kept o l
  refused_kept =
      record {
        refused = all_map l (λ t h. no _ _ _ _ outside h.0) all;
        never_both = all_map l (λ t h p q. omega (arith, h.1)) all;
        unblocked = λ d. all_map l (λ t h b. absurd (never t h b.accepted)) all;
        latest = λ d pre front t post e a w n. absurd (never t (row_at pre front t post e) w.lasting.accepted);
        exactly = λ d n pre front t post e z a w f g. absurd (never t (row_at pre front t post e) w.lasting.accepted);
        again = λ d pre first row post e c b n h. absurd (never first (at pre first (row ++ post) e) b.accepted);
      }
