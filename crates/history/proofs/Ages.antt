-- The fault's age after a list: the ticks that the fault has lasted, its first included, held at T8.
-- Assumes nothing.
use Prim.Native.Nat.{ℕ, ◌+◌, ◌≤◌, min}
use native.Mathlib.Omega.{arith}
use mathlib.Core.Path.{◌≡◌, refl, sym, ap, ◌∙◌, subst}
use mathlib.Core.Bool.{Bool, true, false, false≢true}
use mathlib.Core.List.{List, [], ◌∷◌, ◌++◌, tail-eq_of_cons-eq, head-eq_of_cons-eq, cons≢nil}
use mathlib.Core.Logic.{inl, inr, ⊎_elim}
use borrow.Author.Tests.{ltb-true, ltb-false, leb-true, eqb-true}
use lib.Dec.{ltb, leb}
use lib.ListN.{length}
use Rattle.common.proofs.Cases.{yes, no, chosen}
use Rattle.common.proofs.Joined.{split, and_left, and_right, or_is}
use Rattle.slots.specs.Slots.{slot, t8}
use Rattle.fault.specs.declared.Fault.{Fault}
use Rattle.std.specs.Prelude.{Option}
use Rattle.fault.specs.declared.Latch.{Latch}
use Rattle.fault.specs.Latches.{is_fault, reset_of, age_of, latched_of}
use Rattle.drive_follow.specs.declared.Followed.{Followed}
use Rattle.drive_follow.specs.Follow.{rests_of}
use Rattle.input.specs.declared.Input.{Input}
use Rattle.acting_supervising.specs.Supervising.{cleared_of, supervised_of}
use Rattle.acting_supervising.proofs.EachKind.{faulty_stays}
use Rattle.record.specs.declared.Regulator.{Regulator}
use Rattle.record_limits.specs.Limits.{within_of}
use Rattle.claim.specs.Claim.{Accepted}
use Rattle.claim.specs.Runs.{run_of, after_of, At}
use Rattle.claim.proofs.Runs as runs
use Rattle.rules.specs.Lists.{left_by, starts_on}
use Rattle.rules.specs.Ticks.{is_out}
use Rattle.rules.proofs.Next.{motion}
use Rattle.rules.proofs.Shown.{contacts_at}
use Rattle.rules.proofs.Steps.{next_at, finding_at, cleared_at, settings_kept, within_kept}
use Rattle.history.specs.Kept.{Each}
use Rattle.history.specs.Pasts.{Past, past_on, pasts_from}
use Rattle.history.specs.Memories.{Arises, ArisesNone}
use Rattle.history.proofs.Fields.{live_latch, live_next, not_out_lem, accepts}
use Rattle.history.proofs.Memories.{FaultIs, fault_step}

abbrev age_in : Regulator → ℕ
age_in r = r.state.latch.age

-- an age that goes on, and one that begins
older : (f : Option Fault) (n t : ℕ) → is_fault f ≡ true → n ≤ t → age_of f n t ≡ min (n + 1) t
unfolding age_of
older f n t e h =
    sym (yes _ _ _ _ e refl)
    ∙ chosen (λ k. k ≡ min (n + 1) t) (ltb n t) (n + 1) t (λ p. omega (arith, ltb-true n t p)) (λ p. omega (arith, ltb-false n t p))

-- limits of a record: fault age "at most T8, 0 without fault"
age_most : (r : Regulator) → within_of r ≡ true → age_in r ≤ slot r.settings t8
age_most r h = leb-true _ _ (and_left _ _ (motion r h).latched)

age_none : (r : Regulator) → within_of r ≡ true → is_fault r.state.latch.fault ≡ false → age_in r ≡ 0
age_none r h e =
    ⊎_elim (λ p. absurd (false≢true (sym e ∙ p))) (λ p. eqb-true _ _ p)
    (or_is (is_fault r.state.latch.fault) _ (and_right (leb (age_in r) (slot r.settings t8)) _ (motion r h).latched))

module _ (rest : Bool) (r : Regulator) (i : Input) (h : within_of r ≡ true) (o : is_out r (contacts_at i) ≡ false) where
  abbrev p : Past
  p = past_on (record { rest = rest; got = r }) i

  abbrev cleared : Latch
  cleared = cleared_at r i

  age_is : age_in (next_at r i) ≡ age_of (next_at r i).state.latch.fault cleared.age (slot r.settings t8)
  unfolding supervised_of latched_of
  age_is =
      let e : (next_at r i).state.latch ≡ latched_of cleared p.arose (slot r.settings t8) =
      ap (λ (q : Regulator). q.state.latch) (live_next r i h o) ∙ live_latch r i in
      ap (λ (l : Latch). l.age) e ∙ ap (λ (l : Latch). age_of l.fault cleared.age (slot r.settings t8)) (sym e)

  -- a fault arises only where none was latched
  at_rest_lem : is_fault r.state.latch.fault ≡ true → rests_of r.state.drive ≡ true
  at_rest_lem e = rw e at (motion r h).stopped

  none_before : is_fault p.arose ≡ true → cleared.age ≡ 0
  unfolding cleared_of reset_of
  none_before a =
      ⊎_elim (λ q. ap (λ (l : Latch). l.age) (sym (yes _ _ _ _ q refl)))
      (λ q.
      let k : cleared ≡ r.state.latch = sym (no _ _ _ _ q refl) in
      ap (λ (l : Latch). l.age) k
      ∙ age_none r h
      (⊎_elim
      (λ e.
      let s = faulty_stays r.settings (contacts_at i) (finding_at r i) r.state.drive cleared r.state.wear.last (ap (λ (l : Latch). is_fault l.fault) k ∙ e) (at_rest_lem e) in
      absurd (false≢true (ap (λ (f : Followed). is_fault f.fault) s ∙ a)))
      (λ e. e) (split (is_fault r.state.latch.fault))))
      (split (contacts_at i).reset)

  pub arises_young : (f : Option Fault) → is_fault f ≡ true → p.arose ≡ f → (next_at r i).state.latch.fault ≡ f → age_in (next_at r i) ≡ min 1 (slot r.settings t8)
  arises_young f e a n =
      age_is
      ∙ ap (λ (k : ℕ). age_of (next_at r i).state.latch.fault k (slot r.settings t8)) (none_before (ap is_fault a ∙ e))
      ∙ older (next_at r i).state.latch.fault 0 (slot r.settings t8) (ap is_fault n ∙ e) (omega arith)

  pub lasts_older : (f : Option Fault) → is_fault f ≡ true → (contacts_at i).reset ≡ false → (next_at r i).state.latch.fault ≡ f
      → age_in (next_at r i) ≡ min (age_in r + 1) (slot r.settings t8)
  unfolding cleared_of reset_of
  lasts_older f e q n =
      age_is
      ∙ ap (λ (l : Latch). age_of (next_at r i).state.latch.fault l.age (slot r.settings t8)) (sym (no _ _ _ _ q refl))
      ∙ older (next_at r i).state.latch.fault (age_in r) (slot r.settings t8) (ap is_fault n ∙ e) (age_most r h)

module _ (f : Option Fault) (is-fault : is_fault f ≡ true) (s : List ℕ) where
  abbrev Kept : List Past → Type 0
  Kept since = Each (λ (q : Past). Accepted q.tick → ArisesNone q) since

  -- while it lasts
  lasting : (a : At Regulator) (is : List Input) (n : ℕ) → within_of a.got ≡ true → a.got.settings ≡ s → FaultIs f a.got → age_in a.got ≡ min n (slot s t8)
      → Kept (run_of left_by past_on a is) → age_in (after_of left_by a is).got ≡ min (n + length is) (slot s t8)
  lasting a [] n h e l g k = g ∙ omega arith
  lasting a (i ∷ is) n h e l g k =
      let r = a.got in
      let q = k.0 (accepts r i a.rest h) in
      let o = not_out_lem r i a.rest q.not_out in
      let m = (fault_step f is-fault a.rest r i).1 (inr (l, k.0)) in
      let b = lasts_older a.rest r i h o f is-fault q.not_reset m in
      let b' : age_in (next_at r i) ≡ min (age_in r + 1) (slot s t8) = b ∙ ap (λ (z : List ℕ). min (age_in r + 1) (slot z t8)) e in
      let c : age_in (next_at r i) ≡ min (n + 1) (slot s t8) = omega arith in
      lasting (left_by a i) is (n + 1) (within_kept r i ∙ h) (settings_kept r i ∙ e) m c k.1 ∙ omega arith

  ages_from : (a : At Regulator) (is : List Input) → within_of a.got ≡ true → a.got.settings ≡ s → (before : List Past) (t : Past) (since : List Past)
      → run_of left_by past_on a is ≡ before ++ (t ∷ since) → Arises f t → Kept since → age_in (after_of left_by a is).got ≡ min (1 + length since) (slot s t8)
  ages_from a [] h e [] t since w z k = absurd (cons≢nil (sym w))
  ages_from a [] h e (b ∷ before) t since w z k = absurd (cons≢nil (sym w))
  ages_from a (i ∷ is) h e (b ∷ before) t since w z k =
      ages_from (left_by a i) is (within_kept a.got i ∙ h) (settings_kept a.got i ∙ e) before t since (tail-eq_of_cons-eq w) z k
  ages_from a (i ∷ is) h e [] t since w z k =
      let r = a.got in
      let y : Arises f (past_on a i) = subst (Arises f) (sym (head-eq_of_cons-eq w)) z in
      let m = (fault_step f is-fault a.rest r i).1 (inl y) in
      let o = not_out_lem r i a.rest y.ran.not_out in
      let b : age_in (next_at r i) ≡ min 1 (slot s t8) =
      arises_young a.rest r i h o f is-fault y.arose m ∙ ap (λ (z : List ℕ). min 1 (slot z t8)) e in
      let j : run_of left_by past_on (left_by a i) is ≡ since = tail-eq_of_cons-eq w in
      let c = lasting (left_by a i) is 1 (within_kept r i ∙ h) (settings_kept r i ∙ e) m b (subst Kept (sym j) k) in
      let v : length is ≡ length since = sym (length_of (left_by a i) is) ∙ ap length j in
      c ∙ omega arith
    where
      length_of : (a : At Regulator) (is : List Input) → length (run_of left_by past_on a is) ≡ length is
      length_of a is = runs.length_run left_by past_on a is

-- the fault arose on the tick t of the list, and lasted through `since`
pub ages : (f : Option Fault) → is_fault f ≡ true → (r : Regulator) (is : List Input) → within_of r ≡ true → (before : List Past) (t : Past) (since : List Past)
    → pasts_from r is ≡ before ++ (t ∷ since) → Arises f t → Each (λ (q : Past). Accepted q.tick → ArisesNone q) since
    → age_in (after_of left_by (starts_on r) is).got ≡ min (1 + length since) (slot r.settings t8)
ages f e r is h before t since w z k = ages_from f e r.settings (starts_on r) is h refl before t since w z k
