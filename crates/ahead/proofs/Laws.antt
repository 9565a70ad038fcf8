-- The laws of a look ahead.
-- Assumes nothing.
use Prim.Native.Nat.{ℕ, zero, suc, ◌+◌}
use native.Mathlib.Omega.{arith}
use mathlib.Core.Path.{◌≡◌, refl, sym, ap, ◌∙◌, subst}
use mathlib.Core.Bool.{true, false}
use mathlib.Core.List.{List, ◌∷◌, ◌++◌}
use mathlib.Core.Logic.{◌⊎◌, inl, inr, ⊎_elim}
use borrow.Author.Tests.{eq-eqb, ne_eqb}
use lib.ListN.{length, get_or, replicate, length-replicate}
use Rattle.common.specs.Choice.{choose}
use Rattle.common.proofs.Cases.{yes, no, chosen}
use Rattle.ways.specs.declared.Direction.{Direction}
use Rattle.std.specs.Prelude.{None, Some}
use Rattle.input.specs.declared.Input.{Input}
use Rattle.record.specs.declared.Regulator.{Regulator}
use Rattle.record_limits.specs.Limits.{within_of}
use Rattle.claim.specs.Claim.{Tick, Begins, mode_field, block_field}
use Rattle.claim.specs.Runs.{At}
use Rattle.rules.specs.Lists.{left_by, seen_on, starts_on}
use Rattle.rules.proofs.Steps.{Linked, within_kept}
use Rattle.rules.proofs.Rows as rows
use Rattle.rules.proofs.Waits.{begun_free}
use Rattle.ahead.specs.Looking.{Answer, looked_on, stands_at, as_given, outlook_from, is_horizon, ahead_of}
use Rattle.ahead.specs.Words.{repeated_ticks, after_ticks, NoCommand, Named, Unnamed, First, ticks_run}
use Rattle.ahead.proofs.Begun.{no_way, begins_to}
use Rattle.ahead.proofs.Found.{Found, NoneFound, last_of, looked}

-- ---- the record along the ticks

module _ (i : Input) where
  -- it is the record of any list of ticks (`rules`)
  leads_to : (a : At Regulator) (n : ℕ) → after_ticks a i n ≡ record { rest = rows.rest_after a.rest a.got (replicate n i); got = rows.record_after a.got (replicate n i) }
  leads_to a n = rows.after_is a.rest a.got (replicate n i)

  pub within_after : (a : At Regulator) (n : ℕ) → within_of (after_ticks a i n).got ≡ within_of a.got
  within_after a n = ap (λ (x : At Regulator). within_of x.got) (leads_to a n) ∙ rows.within_after a.got (replicate n i)

  pub settings_after : (a : At Regulator) (n : ℕ) → (after_ticks a i n).got.settings ≡ a.got.settings
  settings_after a n = ap (λ (x : At Regulator). x.got.settings) (leads_to a n) ∙ rows.settings_after a.got (replicate n i)

  pub linked_after : (a : At Regulator) (n : ℕ) → Linked a.rest a.got → Linked (after_ticks a i n).rest (after_ticks a i n).got
  linked_after a n k =
      subst (λ (x : At Regulator). Linked x.rest x.got) (sym (leads_to a n)) (rows.linked_after a.rest a.got (replicate n i) k)

  pub length_repeated : (a : At Regulator) (n : ℕ) → length (repeated_ticks a i n) ≡ n
  length_repeated a n = rows.length_ticks a.rest a.got (replicate n i) ∙ length-replicate n i

  after_suc : (a : At Regulator) (n : ℕ) → after_ticks a i (suc n) ≡ left_by (after_ticks a i n) i
  after_suc a zero = refl
  after_suc a (suc n) = after_suc (left_by a i) n

  pub last_is : (last : Answer) (a : At Regulator) (n : ℕ) → last_of i last a (suc n) ≡ stands_at 0 None (looked_on (after_ticks a i n) i)
  last_is last a zero = refl
  last_is last a (suc n) = last_is (stands_at 0 None (looked_on a i)) (left_by a i) n

  pub last_next : (last : Answer) (a : At Regulator) (n : ℕ) → last.next ≡ a.got → (last_of i last a n).next ≡ (after_ticks a i n).got
  last_next last a zero e = e
  last_next last a (suc n) e = last_next (stands_at 0 None (looked_on a i)) (left_by a i) n refl

  pub last_plain : (last : Answer) (a : At Regulator) (n : ℕ) → (last.refusal ≡ 0) × (last.tick ≡ 0) × (last.way ≡ None)
      → ((last_of i last a n).refusal ≡ 0) × ((last_of i last a n).tick ≡ 0) × ((last_of i last a n).way ≡ None)
  last_plain last a zero e = e
  last_plain last a (suc n) e = last_plain (stands_at 0 None (looked_on a i)) (left_by a i) n (refl, refl, refl)

  -- the ticks, cut at one of them
  pub ticks_cut : (a : At Regulator) (n m p : ℕ) → p ≡ n + suc m → repeated_ticks a i p ≡ repeated_ticks a i n ++ (seen_on (after_ticks a i n) i ∷ repeated_ticks (left_by (after_ticks a i n) i) i m)
  ticks_cut a n m zero e = absurd (omega arith)
  ticks_cut a zero m (suc p) e = let z : p ≡ m = omega arith in ap (λ (q : ℕ). seen_on a i ∷ repeated_ticks (left_by a i) i q) z
  ticks_cut a (suc n) m (suc p) e = ap (λ (l : List Tick). seen_on a i ∷ l) (ticks_cut (left_by a i) n m p (omega arith))

-- ---- the answer: 4, 6 or the look

module _ (r : Regulator) (i : Input) (n : ℕ) where
  pub answer_cases : (P : Answer → Type 0) → (within_of r ≡ false → P (as_given 4 r)) → (within_of r ≡ true → is_horizon n ≡ false → P (as_given 6 r))
      → (within_of r ≡ true → is_horizon n ≡ true → P (outlook_from (starts_on r) i n)) → P (ahead_of r i n)
  unfolding ahead_of
  answer_cases P four six look = chosen P (within_of r) _ _ (λ h. chosen P (is_horizon n) _ _ (λ k. look h k) (λ k. six h k)) (λ h. four h)

  pub look_is : within_of r ≡ true → is_horizon n ≡ true → ahead_of r i n ≡ outlook_from (starts_on r) i n
  unfolding ahead_of
  look_is h k = sym (yes _ _ _ _ h (yes _ _ _ _ k refl))

  -- the look, by what it found
  looked_cases : (P : Answer → Type 0) → ((o : Answer) → Found i (starts_on r) n 0 o → P o) → ((o : Answer) → NoneFound i (as_given 0 r) (starts_on r) n o → P o)
      → P (outlook_from (starts_on r) i n)
  looked_cases P found none = ⊎_elim (found _) (none _) (looked i (starts_on r) n 0 (as_given 0 r))

  -- the refusal outright
  pub refusal_is : (ahead_of r i n).refusal ≡ choose (within_of r) (choose (is_horizon n) 0 6) 4
  refusal_is =
      answer_cases (λ (o : Answer). o.refusal ≡ choose (within_of r) (choose (is_horizon n) 0 6) 4) (λ h. no _ _ _ _ h refl) (λ h k. yes _ _ _ _ h (no _ _ _ _ k refl))
      (λ h k.
      yes _ _ _ _ h
      (yes _ _ _ _ k
      (looked_cases (λ (o : Answer). o.refusal ≡ 0) (λ o f. ap (λ (q : Answer). q.refusal) f.is)
      (λ o f. ap (λ (q : Answer). q.refusal) f.is ∙ (last_plain i (as_given 0 r) (starts_on r) n (refl, refl, refl)).0))))

  -- where it is not 0, all is as given
  pub given_back_lem : ((ahead_of r i n).refusal ≡ 0 → ⊥) → ahead_of r i n ≡ as_given (choose (within_of r) 6 4) r
  given_back_lem =
      answer_cases (λ (o : Answer). (o.refusal ≡ 0 → ⊥) → o ≡ as_given (choose (within_of r) 6 4) r)
      (λ h _. ap (λ (m : ℕ). as_given m r) (no _ _ _ _ h refl))
      (λ h k _. ap (λ (m : ℕ). as_given m r) (yes _ _ _ _ h refl))
      (λ h k q. absurd (q (sym (ap (λ (o : Answer). o.refusal) (look_is h k)) ∙ refusal_is ∙ sym (yes _ _ _ _ h (yes _ _ _ _ k refl)))))

  -- a tick of the horizon with a way, or 0 and no way
  pub named_or_not : Named n (ahead_of r i n) ⊎ Unnamed (ahead_of r i n)
  named_or_not =
      answer_cases (λ (o : Answer). Named n o ⊎ Unnamed o) (λ h. inr (record { none = refl; zero = refl })) (λ h k. inr (record { none = refl; zero = refl }))
      (λ h k.
      looked_cases (λ (o : Answer). Named n o ⊎ Unnamed o)
      (λ o f.
      let t : o.tick ≡ 0 + f.before + 1 = ap (λ (q : Answer). q.tick) f.is in
      let w : n ≡ f.before + suc f.later = f.whole in
      inl (record { direction = f.direction; way = ap (λ (q : Answer). q.way) f.is; counted = omega arith; inside = omega arith }))
      (λ o f.
      let p = last_plain i (as_given 0 r) (starts_on r) n (refl, refl, refl) in
      inr (record { none = ap (λ (q : Answer). q.way) f.is ∙ p.2; zero = ap (λ (q : Answer). q.tick) f.is ∙ p.1 })))

  -- the record is accepted afterwards exactly if this one is
  pub lasting : within_of (ahead_of r i n).next ≡ within_of r
  lasting =
      answer_cases (λ (o : Answer). within_of o.next ≡ within_of r) (λ h. refl) (λ h k. refl)
      (λ h k.
      looked_cases (λ (o : Answer). within_of o.next ≡ within_of r)
      (λ o f.
      ap (λ (q : Answer). within_of q.next) f.is ∙ within_kept (after_ticks (starts_on r) i f.before).got i ∙ within_after i (starts_on r) f.before)
      (λ o f. ap (λ (q : Answer). within_of q.next) f.is ∙ ap within_of (last_next i (as_given 0 r) (starts_on r) n refl) ∙ within_after i (starts_on r) n))

  abbrev linked : Linked (starts_on r).rest (starts_on r).got
  linked _ = refl

  -- what is told where a command is found, and where none is
  module _ (d : Direction) where
    same_to : (e : Direction) → Some e ≡ Some d → e ≡ d
    same_to e p = cc

    found_way : (o : Answer) → o.way ≡ Some d → (f : Found i (starts_on r) n 0 o) → f.direction ≡ d
    found_way o w f = same_to f.direction (sym (ap (λ (q : Answer). q.way) f.is) ∙ w)

    pub not_found : (o : Answer) → o.way ≡ Some d → NoneFound i (as_given 0 r) (starts_on r) n o → ⊥
    not_found o w f =
        no_way d (sym (last_plain i (as_given 0 r) (starts_on r) n (refl, refl, refl)).2 ∙ sym (ap (λ (q : Answer). q.way) f.is) ∙ w)

    begins_at : (o : Answer) → o.way ≡ Some d → (f : Found i (starts_on r) n 0 o) → Begins d (seen_on (after_ticks (starts_on r) i f.before) i)
    begins_at o w f = begins_to _ d (f.begins ∙ ap Some (found_way o w f))

    first_of : (o : Answer) → o.way ≡ Some d → Found i (starts_on r) n 0 o → First (repeated_ticks (starts_on r) i n) d o
    first_of o w f =
        let m : length (repeated_ticks (starts_on r) i f.before) ≡ f.before = length_repeated i (starts_on r) f.before in
        let t : o.tick ≡ 0 + f.before + 1 = ap (λ (q : Answer). q.tick) f.is in
        record {
          front = repeated_ticks (starts_on r) i f.before;
          at = seen_on (after_ticks (starts_on r) i f.before) i;
          post = repeated_ticks (left_by (after_ticks (starts_on r) i f.before) i) i f.later;
          whole = ticks_cut i (starts_on r) f.before f.later n f.whole;
          none = f.none;
          begins = begins_at o w f;
          number = omega arith;
          outputs = ap (λ (q : Answer). q.outputs) f.is;
        }

    -- "the first command": the tick of that number begins it, by demand 3's word, and none before it begins any
    pub first : (ahead_of r i n).way ≡ Some d → First (repeated_ticks (starts_on r) i n) d (ahead_of r i n)
    first =
        answer_cases (λ (o : Answer). o.way ≡ Some d → First (repeated_ticks (starts_on r) i n) d o) (λ h w. absurd (no_way d w)) (λ h k w. absurd (no_way d w))
        (λ h k.
        looked_cases (λ (o : Answer). o.way ≡ Some d → First (repeated_ticks (starts_on r) i n) d o) (λ o f w. first_of o w f) (λ o f w. absurd (not_found o w f)))

    abbrev Free : Answer → Type 0
    Free o = (get_or o.outputs (mode_field i.contacts) 0 ≡ 0) × (get_or o.outputs (block_field d) 0 ≡ 0)

    free_of : (o : Answer) → o.way ≡ Some d → Found i (starts_on r) n 0 o → Free o
    free_of o w f =
        let a = after_ticks (starts_on r) i f.before in
        let b = begun_free d a.rest a.got i (linked_after i (starts_on r) f.before linked) (begins_at o w f) in
        let e = ap (λ (q : Answer). q.outputs) f.is in
        (ap (λ (l : List ℕ). get_or l (mode_field i.contacts) 0) e ∙ b.0, ap (λ (l : List ℕ). get_or l (block_field d) 0) e ∙ b.1)

    -- its mode and its direction are not blocked on its tick
    pub free : (ahead_of r i n).way ≡ Some d → Free (ahead_of r i n)
    free =
        answer_cases (λ (o : Answer). o.way ≡ Some d → Free o) (λ h w. absurd (no_way d w)) (λ h k w. absurd (no_way d w))
        (λ h k. looked_cases (λ (o : Answer). o.way ≡ Some d → Free o) (λ o f w. free_of o w f) (λ o f w. absurd (not_found o w f)))

  way_found : (o : Answer) → o.way ≡ None → Found i (starts_on r) n 0 o → ⊥
  way_found o w f = no_way f.direction (sym w ∙ ap (λ (q : Answer). q.way) f.is)

  -- no way is told only where none of the ticks begins a command
  pub none : (ahead_of r i n).refusal ≡ 0 → (ahead_of r i n).way ≡ None → NoCommand (repeated_ticks (starts_on r) i n)
  none =
      answer_cases (λ (o : Answer). o.refusal ≡ 0 → o.way ≡ None → NoCommand (repeated_ticks (starts_on r) i n)) (λ h e. absurd (omega arith)) (λ h k e. absurd (omega arith))
      (λ h k.
      looked_cases (λ (o : Answer). o.refusal ≡ 0 → o.way ≡ None → NoCommand (repeated_ticks (starts_on r) i n)) (λ o f _ w. absurd (way_found o w f))
      (λ o f _ w. f.none))

  abbrev Stands : Answer → Type 0
  Stands o = o.next ≡ (after_ticks (starts_on r) i (ticks_run n o)).got

  -- the record is the one that so many ticks leave
  pub stands : (ahead_of r i n).refusal ≡ 0 → Stands (ahead_of r i n)
  stands =
      answer_cases (λ (o : Answer). o.refusal ≡ 0 → Stands o) (λ h e. absurd (omega arith)) (λ h k e. absurd (omega arith))
      (λ h k _. looked_cases Stands stands_found stands_none)
    where
      stands_found : (o : Answer) → Found i (starts_on r) n 0 o → Stands o
      stands_found o f =
          let t : o.tick ≡ 0 + f.before + 1 = ap (λ (q : Answer). q.tick) f.is in
          let z : ticks_run n o ≡ suc f.before = sym (no _ _ _ _ (ne_eqb o.tick 0 (λ e. omega arith)) (omega arith)) in
          ap (λ (q : Answer). q.next) f.is
          ∙ sym (ap (λ (k : ℕ). (after_ticks (starts_on r) i k).got) z ∙ ap (λ (b : At Regulator). b.got) (after_suc i (starts_on r) f.before))

      stands_none : (o : Answer) → NoneFound i (as_given 0 r) (starts_on r) n o → Stands o
      stands_none o f =
          let t : o.tick ≡ 0 = ap (λ (q : Answer). q.tick) f.is ∙ (last_plain i (as_given 0 r) (starts_on r) n (refl, refl, refl)).1 in
          let z : ticks_run n o ≡ n = sym (yes _ _ _ _ (eq-eqb _ _ t) refl) in
          ap (λ (q : Answer). q.next) f.is ∙ last_next i (as_given 0 r) (starts_on r) n refl ∙ sym (ap (λ (k : ℕ). (after_ticks (starts_on r) i k).got) z)

  -- all that a look promises, from the first
  pub promised : {o : Answer} → o ≡ ahead_of r i n
      → (o ≡ ahead_of r i n) × ((o.refusal ≡ choose (within_of r) (choose (is_horizon n) 0 6) 4) × (within_of o.next ≡ within_of r))
  promised e = (e, (ap (λ (q : Answer). q.refusal) e ∙ refusal_is, ap (λ (q : Answer). within_of q.next) e ∙ lasting))
