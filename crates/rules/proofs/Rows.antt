-- Rows of ticks in a list, from the one-step laws alone: nothing here looks into a tick, or knows the kind of drive.
-- Assumes nothing.
use Prim.Native.Nat.{ℕ, ◌+◌, ◌≤◌, ◌<◌}
use native.Mathlib.Omega.{arith}
use mathlib.Core.Path.{◌≡◌, refl, sym, ap, ◌∙◌, subst}
use mathlib.Core.Bool.{Bool, true, false, true≢false}
use mathlib.Core.List.{List, [], ◌∷◌, ◌++◌, append_assoc}
use mathlib.Core.Logic.{inl, inr, ⊎_elim, ◌↔◌}
use lib.ListN.{length, length-append}
use Rattle.ways.specs.declared.Direction.{Direction}
use Rattle.input.specs.declared.Input.{Input}
use Rattle.record.specs.declared.Regulator.{Regulator}
use Rattle.record_limits.specs.Limits.{within_of}
use Rattle.common.specs.Choice.{choose}
use Rattle.claim.specs.Claim.{Tick, All, Some, Begins, Lasting, Waiting, Free, BeganAtZero, InForce, longest, closed}
use Rattle.claim.specs.Runs.{run_of, after_of, At}
use Rattle.claim.proofs.Lists.{all_join, all_map}
use Rattle.claim.proofs.Runs as runs
use Rattle.rules.specs.Lists.{left_by, seen_on, ticks_from, delay_in, opening}
use Rattle.rules.proofs.Steps.{tick_at, next_at, rest_at, wait_to, Linked, accepted_is, accepted_within, settings_kept, within_kept, linked_kept}
use Rattle.rules.proofs.Waits.{begun_moves, force_is, force_least, force_most, wait_step, wait_or_zero, no_wait_is}

-- Lists of ticks.
abbrev pub Open : Tick → Type 0
Open t = closed t ≡ false

abbrev pub Closed : Tick → Type 0
Closed t = closed t ≡ true

abbrev pub record_after : Regulator → List Input → Regulator
record_after r is = after_of next_at r is

abbrev pub rest_after : Bool → Regulator → List Input → Bool
rest_after rest r [] = rest
rest_after rest r (i ∷ is) = rest_after (rest_at r i) (next_at r i) is

-- A list of ticks that is cut in two: the front is a list of ticks, and so is the back, from where the front leaves off.
pub record Cut (rest : Bool) (r : Regulator) (a b : List Tick) : Type 0 where
  pub front : List Input
  pub back : List Input
  pub is_front : a ≡ ticks_from rest r front
  pub is_back : b ≡ ticks_from (rest_after rest r front) (record_after r front) back

-- where a list leaves off
pub after_is : (rest : Bool) (r : Regulator) (is : List Input)
    → after_of left_by (record { rest = rest; got = r }) is ≡ record { rest = rest_after rest r is; got = record_after r is }
after_is rest r [] = refl
after_is rest r (i ∷ is) = after_is (rest_at r i) (next_at r i) is

pub cut : (rest : Bool) (r : Regulator) (is : List Input) (a b : List Tick) → ticks_from rest r is ≡ a ++ b → Cut rest r a b
cut rest r is a b e =
    let c = runs.cut left_by seen_on (record { rest = rest; got = r }) is a b e in
    record {
      front = c.front;
      back = c.back;
      is_front = c.is_front;
      is_back = c.is_back ∙ ap (λ (s : At Regulator). run_of left_by seen_on s c.back) (after_is rest r c.front);
    }

module _ (P : Tick → Type 0) where
  -- what every tick of a list on any record has
  pub all_ticks : ((rest : Bool) (r : Regulator) (i : Input) → Linked rest r → P (tick_at rest r i)) →
      (rest : Bool) (r : Regulator) (is : List Input) → Linked rest r → All P (ticks_from rest r is)
  all_ticks f rest r [] k = tt
  all_ticks f rest r (i ∷ is) k = (f rest r i k, all_ticks f (rest_at r i) (next_at r i) is (λ h. linked_kept r i (sym (within_kept r i) ∙ h)))

pub length_ticks : (rest : Bool) (r : Regulator) (is : List Input) → length (ticks_from rest r is) ≡ length is
length_ticks rest r is = runs.length_run left_by seen_on (record { rest = rest; got = r }) is

-- What the ticks keep.
pub linked_step : (rest : Bool) (r : Regulator) (i : Input) → Linked (rest_at r i) (next_at r i)
linked_step rest r i = λ h. linked_kept r i (sym (within_kept r i) ∙ h)

pub linked_after : (rest : Bool) (r : Regulator) (is : List Input) → Linked rest r → Linked (rest_after rest r is) (record_after r is)
linked_after rest r [] k = k
linked_after rest r (i ∷ is) k = linked_after (rest_at r i) (next_at r i) is (linked_step rest r i)

pub settings_after : (r : Regulator) (is : List Input) → (record_after r is).settings ≡ r.settings
settings_after r [] = refl
settings_after r (i ∷ is) = settings_after (next_at r i) is ∙ settings_kept r i

pub within_after : (r : Regulator) (is : List Input) → within_of (record_after r is) ≡ within_of r
within_after r [] = refl
within_after r (i ∷ is) = within_after (next_at r i) is ∙ within_kept r i

zero_after :
    (d : Direction) (r₀ : Regulator) (rest : Bool) (r : Regulator) (i : Input) (is : List Input) → Linked rest r → within_of r ≡ true →
    BeganAtZero d (opening r₀) (ticks_from rest r (i ∷ is)) → wait_to d (record_after r (i ∷ is)) ≡ 0
zero_after d r₀ rest r i [] k h z = ⊎_elim (λ w. absurd (z w)) (λ e. e) (wait_or_zero d rest r i k h)
zero_after d r₀ rest r i (j ∷ is) k h z =
    zero_after d r₀ (rest_at r i) (next_at r i) j is (linked_step rest r i) (within_kept r i ∙ h) z

pub began : (d : Direction) (rest : Bool) (r : Regulator) (is : List Input) → Linked rest r → within_of r ≡ true →
    BeganAtZero d (opening r) (ticks_from rest r is) → wait_to d (record_after r is) ≡ 0
began d rest r [] k h z = no_wait_is d r z
began d rest r (i ∷ is) k h z = zero_after d r rest r i is k h z

-- A row of waiting ticks.
pub row_begins :
    (d : Direction) (rest : Bool) (r : Regulator) (is : List Input) → Linked rest r → rest ≡ true →
    All (Lasting d) (ticks_from rest r is) → All Free (ticks_from rest r is) → 0 < length is →
    longest r.settings ≤ wait_to d r + length is → Some (Begins d) (ticks_from rest r is)
row_begins d rest r [] k e l o p q = absurd (omega arith)
row_begins d rest r (i ∷ is) k e l o p q =
    ⊎_elim (λ b. inl b.begins)
    (λ n.
    let m : delay_in d r i ≤ longest r.settings = force_most d r i in
    let t : longest (next_at r i).settings ≡ longest r.settings = ap longest (settings_kept r i) in
    let w : wait_to d (next_at r i) ≡ wait_to d r + 1 = n.more in
    let v : wait_to d r + 1 < delay_in d r i = n.early in
    inr
    (row_begins d (rest_at r i) (next_at r i) is (linked_step rest r i) n.rests l.1 o.1 (omega arith) (omega arith)))
    (wait_step d rest r i k (record { lasting = l.0; rest = e; contact = o.0 }))

goes_on :
    (d : Direction) (rest : Bool) (r : Regulator) (front : List Input) (i : Input) → All (Waiting d) (ticks_from rest r front) →
    Waiting d (tick_at (rest_after rest r front) (record_after r front) i) → rest ≡ false → ⊥
goes_on d rest r [] i a w e = true≢false (sym w.rest ∙ e)
goes_on d rest r (j ∷ front) i a w e = true≢false (sym a.0.rest ∙ e)

pub exact :
    (d : Direction) (delay : ℕ) (rest : Bool) (r : Regulator) (front : List Input) (i : Input) → Linked rest r →
    wait_to d r + 1 ≤ delay → All (Waiting d) (ticks_from rest r front) →
    Waiting d (tick_at (rest_after rest r front) (record_after r front) i) →
    All (InForce d delay) (ticks_from rest r front) → delay_in d (record_after r front) i ≡ delay →
    Begins d (tick_at (rest_after rest r front) (record_after r front) i) ↔ (wait_to d r + length front + 1 ≡ delay)
exact d delay rest r [] i k p a w f e =
    ⊎_elim (λ b. (λ _. let q = b.due in omega arith, λ _. b.begins))
    (λ n. (λ b. absurd (n.none b), λ q. let v = n.early in absurd (omega arith)))
    (wait_step d rest r i k w)
exact d delay rest r (j ∷ front) i k p a w f e =
    ⊎_elim
    (λ b. absurd (goes_on d (rest_at r j) (next_at r j) front i a.1 w (begun_moves d rest r j k b.begins)))
    (λ n.
    let v = n.early in
    let x = n.more in
    let y = sym (force_is d rest r j) ∙ f.0 in
    let g = exact d delay (rest_at r j) (next_at r j) front i (linked_step rest r j) (omega arith) a.1 w f.1 e in
    (λ b. let z = g.0 b in omega arith, λ q. g.1 (omega arith)))
    (wait_step d rest r j k a.0)

-- The rows of a list.
pub uncons :
    (rest : Bool) (r : Regulator) (is : List Input) (t : Tick) (ts : List Tick) → t ∷ ts ≡ ticks_from rest r is →
    (i : Input) × (later : List Input) × (t ≡ tick_at rest r i) × (ts ≡ ticks_from (rest_at r i) (next_at r i) later)
uncons rest r is t ts e = runs.uncons left_by seen_on (record { rest = rest; got = r }) is t ts e

pub first_rests :
    (d : Direction) (rest : Bool) (r : Regulator) (is : List Input) → 0 < length is → All (Waiting d) (ticks_from rest r is) → rest ≡ true
first_rests d rest r [] p a = absurd (omega arith)
first_rests d rest r (i ∷ is) p a = a.0.rest

first_within :
    (d : Direction) (rest : Bool) (r : Regulator) (is : List Input) → 0 < length is → All (Waiting d) (ticks_from rest r is) → within_of r ≡ true
first_within d rest r [] p a = absurd (omega arith)
first_within d rest r (i ∷ is) p a = accepted_within r i a.0.lasting.accepted

pub refused_of_lem : (v : Bool) (rest : Bool) (r : Regulator) (is : List Input) → within_of r ≡ v → All (λ t. t.refusal ≡ choose v 0 4) (ticks_from rest r is)
refused_of_lem v rest r [] h = tt
refused_of_lem v rest r (i ∷ is) h = (accepted_is r i ∙ ap (λ (b : Bool). choose b 0 4) h, refused_of_lem v (rest_at r i) (next_at r i) is (within_kept r i ∙ h))

module _ (d : Direction) (rest : Bool) (r : Regulator) (is : List Input) (k : Linked rest r) where
  pub latest_of :
      (pre front : List Tick) (t : Tick) (post : List Tick) → ticks_from rest r is ≡ pre ++ (front ++ (t ∷ post)) →
      All (Waiting d) front → Waiting d t → length front + 1 ≡ longest r.settings → Some (Begins d) (front ++ (t ∷ []))
  latest_of pre front t post e a w n =
      let c = cut rest r is pre (front ++ (t ∷ post)) e in
      let r₁ = record_after r c.front in
      let rest₁ = rest_after rest r c.front in
      let b = cut rest₁ r₁ c.back (front ++ (t ∷ [])) post (sym c.is_back ∙ sym (append_assoc front (t ∷ []) post)) in
      let row = b.front in
      let all : All (Waiting d) (ticks_from rest₁ r₁ row) = subst (All (Waiting d)) b.is_front (all_join (Waiting d) front (t ∷ []) a (w, tt)) in
      let m : length front + 1 ≡ length row =
      sym (length-append front (t ∷ [])) ∙ ap length b.is_front ∙ length_ticks rest₁ r₁ row in
      let s : longest r₁.settings ≡ longest r.settings = ap longest (settings_after r c.front) in
      let p : 0 < length row = omega arith in
      subst (Some (Begins d)) (sym b.is_front)
      (row_begins d rest₁ r₁ row (linked_after rest r c.front k) (first_rests d rest₁ r₁ row p all)
      (all_map (ticks_from rest₁ r₁ row) (λ u h. h.lasting) all)
      (all_map (ticks_from rest₁ r₁ row) (λ u h. h.contact) all) p (omega arith))

  pub exactly_of :
      (delay : ℕ) (pre front : List Tick) (t : Tick) (post : List Tick) → ticks_from rest r is ≡ pre ++ (front ++ (t ∷ post)) →
      BeganAtZero d (opening r) pre → All (Waiting d) front → Waiting d t → All (InForce d delay) front → InForce d delay t →
      Begins d t ↔ (length front + 1 ≡ delay)
  exactly_of delay pre front t post e z a w f g =
      let c = cut rest r is pre (front ++ (t ∷ post)) e in
      let r₁ = record_after r c.front in
      let rest₁ = rest_after rest r c.front in
      let b = cut rest₁ r₁ c.back front (t ∷ post) (sym c.is_back) in
      let row = b.front in
      let r₂ = record_after r₁ row in
      let rest₂ = rest_after rest₁ r₁ row in
      let u = uncons rest₂ r₂ b.back t post b.is_back in
      let i = u.0 in
      let w₂ : Waiting d (tick_at rest₂ r₂ i) = subst (Waiting d) u.2 w in
      let g₂ : delay_in d r₂ i ≡ delay = sym (force_is d rest₂ r₂ i) ∙ subst (InForce d delay) u.2 g in
      let h : within_of r ≡ true =
      sym (within_after r c.front) ∙ sym (within_after r₁ row) ∙ accepted_within r₂ i w₂.lasting.accepted in
      let n : wait_to d r₁ ≡ 0 = began d rest r c.front k h (subst (BeganAtZero d (opening r)) c.is_front z) in
      let q : 20 ≤ delay_in d r₂ i = force_least d r₂ i (within_after r₁ row ∙ within_after r c.front ∙ h) in
      let m : length front ≡ length row = ap length b.is_front ∙ length_ticks rest₁ r₁ row in
      let x =
      exact d delay rest₁ r₁ row i (linked_after rest r c.front k) (omega arith) (subst (All (Waiting d)) b.is_front a) w₂
      (subst (All (InForce d delay)) b.is_front f) g₂ in (
        λ y. let v = x.0 (subst (Begins d) u.2 y) in omega arith,
        λ y. subst (Begins d) (sym u.2) (x.1 (omega arith)),
      )
