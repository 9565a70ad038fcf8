-- Looks over other horizons: a longer one gives the same answer once a command is found, and one without an answer may be looked on from.
-- Assumes nothing.
use Prim.Native.Nat.{ℕ, zero, suc, ◌+◌}
use native.Mathlib.Omega.{arith}
use mathlib.Core.Path.{◌≡◌, refl, sym, ap, ◌∙◌}
use mathlib.Core.Bool.{true, false≢true}
use mathlib.Core.List.{List, [], ◌∷◌}
use mathlib.Core.Logic.{⊎_elim}
use Rattle.ways.specs.declared.Direction.{Direction}
use Rattle.std.specs.Prelude.{Option, None, Some}
use Rattle.input.specs.declared.Input.{Input}
use Rattle.record.specs.declared.Regulator.{Regulator}
use Rattle.record_limits.specs.Limits.{within_of}
use Rattle.claim.specs.Runs.{At}
use Rattle.rules.specs.Lists.{left_by, seen_on, starts_on}
use Rattle.rules.proofs.Steps.{never_both_lem}
use Rattle.ahead.specs.Looking.{Answer, Looked, looked_on, looked_from, begun_by, stands_at, found_or, first_after, as_given, outlook_from, is_horizon, ahead_of}
use Rattle.ahead.specs.Words.{repeated_ticks, after_ticks, NoCommand, later_tick, later_by}
use Rattle.ahead.proofs.Begun.{no_way, none_exactly}
use Rattle.ahead.proofs.Found.{Found, last_of, looked}
use Rattle.ahead.proofs.Laws.{within_after, linked_after, last_next, last_plain, answer_cases, look_is, not_found}

module _ (i : Input) where
  -- past a tick that begins no command
  passes : (a : At Regulator) (n k : ℕ) (last : Answer) → NoCommand (repeated_ticks a i 1)
      → first_after k last (looked_from a i (suc n)) ≡ first_after (k + 1) (stands_at 0 None (looked_on a i)) (looked_from (left_by a i) i n)
  unfolding first_after found_or
  passes a n k last h =
      ap (λ (w : Option Direction). found_or (k + 1) (looked_on a i) w (first_after (k + 1) (stands_at 0 None (looked_on a i)) (looked_from (left_by a i) i n)))
      ((none_exactly (seen_on a i) (never_both_lem a.got i)).1 h.0)

  -- a command that is found is found whatever comes after it
  finds : (a : At Regulator) (d : Direction) (before later n k : ℕ) (last : Answer) → n ≡ before + suc later → NoCommand (repeated_ticks a i before)
      → begun_by (seen_on (after_ticks a i before) i) ≡ Some d
      → first_after k last (looked_from a i n) ≡ stands_at (k + before + 1) (Some d) (looked_on (after_ticks a i before) i)
  unfolding first_after found_or
  finds a d before later zero k last p h e = absurd (omega arith)
  finds a d zero later (suc n) k last p h e =
      ap (λ (w : Option Direction). found_or (k + 1) (looked_on a i) w (first_after (k + 1) (stands_at 0 None (looked_on a i)) (looked_from (left_by a i) i n))) e
      ∙ ap (λ (m : ℕ). stands_at m (Some d) (looked_on a i)) (omega arith)
  finds a d (suc before) later (suc n) k last p h e =
      passes a n k last (h.0, tt)
      ∙ finds (left_by a i) d before later n (k + 1) (stands_at 0 None (looked_on a i)) (omega arith) h.1 e
      ∙ ap (λ (m : ℕ). stands_at m (Some d) (looked_on (after_ticks (left_by a i) i before) i)) (omega arith)

  -- ticks without a command, and then the rest
  passes_all : (a : At Regulator) (n m p k : ℕ) (last : Answer) → p ≡ n + m → NoCommand (repeated_ticks a i n)
      → first_after k last (looked_from a i p) ≡ first_after (k + n) (last_of i last a n) (looked_from (after_ticks a i n) i m)
  passes_all a zero m p k last e h = λ j. first_after (zero_more j) last (looked_from a i (same j))
    where
      zero_more : k ≡ k + 0
      zero_more = omega arith

      same : p ≡ m
      same = omega arith
  passes_all a (suc n) m zero k last e h = absurd (omega arith)
  passes_all a (suc n) m (suc p) k last e h =
      passes a p k last (h.0, tt)
      ∙ passes_all (left_by a i) n m p (k + 1) (stands_at 0 None (looked_on a i)) (omega arith) h.1
      ∙ ap (λ (j : ℕ). first_after j (last_of i (stands_at 0 None (looked_on a i)) (left_by a i) n) (looked_from (after_ticks (left_by a i) i n) i m)) (omega arith)

-- the same list counted from a later tick
kept_by : (j : ℕ) (o : Answer) → o.way ≡ None → o ≡ later_by j o
kept_by j o e = ap (λ (n : ℕ). record { refusal = o.refusal; tick = n; way = o.way; outputs = o.outputs; next = o.next }) (sym (ap (λ (w : Option Direction). later_tick j w o.tick) e))

counted_on : (j k : ℕ) (last : Answer) (l : List Looked) → last.way ≡ None → first_after (j + k) last l ≡ later_by j (first_after k last l)
unfolding first_after found_or
counted_on j k last [] e = kept_by j last e
counted_on j k last (t ∷ ts) e = by_way (begun_by t.tick) (counted_on j (k + 1) (stands_at 0 None t) ts refl)
  where
    by_way : (w : Option Direction) → first_after (j + (k + 1)) (stands_at 0 None t) ts ≡ later_by j (first_after (k + 1) (stands_at 0 None t) ts)
        → found_or (j + k + 1) t w (first_after (j + k + 1) (stands_at 0 None t) ts) ≡ later_by j (found_or (k + 1) t w (first_after (k + 1) (stands_at 0 None t) ts))
    by_way None h = ap (λ (m : ℕ). first_after m (stands_at 0 None t) ts) (omega arith) ∙ h
    by_way (Some d) h = ap (λ (m : ℕ). stands_at m (Some d) t) (omega arith)

module _ (r : Regulator) (i : Input) (n m : ℕ) where
  -- a longer horizon gives the same answer once a command is found
  pub longer : (d : Direction) → (ahead_of r i n).way ≡ Some d → is_horizon (n + m) ≡ true → ahead_of r i (n + m) ≡ ahead_of r i n
  longer d =
      answer_cases r i n (λ (o : Answer). o.way ≡ Some d → is_horizon (n + m) ≡ true → ahead_of r i (n + m) ≡ o) (λ h w. absurd (no_way d w)) (λ h k w. absurd (no_way d w))
      (λ h k w q.
      look_is r i (n + m) h q
      ∙ ⊎_elim (λ f. same f)
      (λ f. absurd (not_found r i n d _ w f))
      (looked i (starts_on r) n 0 (as_given 0 r)))
    where
      same : Found i (starts_on r) n 0 (outlook_from (starts_on r) i n) → outlook_from (starts_on r) i (n + m) ≡ outlook_from (starts_on r) i n
      same f =
          let w : n ≡ f.before + suc f.later = f.whole in
          let z : n + m ≡ f.before + suc (f.later + m) = omega arith in
          finds i (starts_on r) f.direction f.before (f.later + m) (n + m) 0 (as_given 0 r) z f.none f.begins
          ∙ sym f.is

  -- where the ticks lead, the record tells the rest
  leads : within_of r ≡ true → (p : ℕ) → after_ticks (starts_on r) i p ≡ starts_on (after_ticks (starts_on r) i p).got
  leads h p j =
      record { rest = linked_after i (starts_on r) p (λ _. refl) (within_after i (starts_on r) p ∙ h) j; got = (after_ticks (starts_on r) i p).got }

  onward : within_of r ≡ true → is_horizon n ≡ true → (ahead_of r i n).way ≡ None
      → ((ahead_of r i n).next ≡ (after_ticks (starts_on r) i n).got) × NoCommand (repeated_ticks (starts_on r) i n)
  onward h k w =
      let e = look_is r i n h k in
      ⊎_elim (λ f. absurd (no_way f.direction (sym w ∙ ap (λ (p : Answer). p.way) (e ∙ f.is))))
      (λ f. (ap (λ (p : Answer). p.next) (e ∙ f.is) ∙ last_next i (as_given 0 r) (starts_on r) n refl, f.none))
      (looked i (starts_on r) n 0 (as_given 0 r))

-- the last answer does not matter where a tick follows
after_some : (a : At Regulator) (i : Input) (m k : ℕ) (x y : Answer) → is_horizon m ≡ true → first_after k x (looked_from a i m) ≡ first_after k y (looked_from a i m)
unfolding first_after
after_some a i zero k x y e = absurd (false≢true e)
after_some a i (suc m) k x y e = refl

module _ (r : Regulator) (i : Input) (n m : ℕ) where
  -- none within n ticks, and then looking on from that record, is looking over both
  pub composes : within_of r ≡ true → is_horizon n ≡ true → is_horizon m ≡ true → is_horizon (n + m) ≡ true → (ahead_of r i n).way ≡ None
      → ahead_of r i (n + m) ≡ later_by n (ahead_of (ahead_of r i n).next i m)
  composes h k l q w =
      let o = onward r i n m h k w in
      let a = after_ticks (starts_on r) i n in
      let z : 0 + n ≡ n + 0 = omega arith in
      look_is r i (n + m) h q
      ∙ passes_all i (starts_on r) n m (n + m) 0 (as_given 0 r) refl o.1
      ∙ ap (λ (p : ℕ). first_after p (last_of i (as_given 0 r) (starts_on r) n) (looked_from a i m)) z
      ∙ counted_on n 0 (last_of i (as_given 0 r) (starts_on r) n) (looked_from a i m) (last_plain i (as_given 0 r) (starts_on r) n (refl, refl, refl)).2
      ∙ ap (later_by n)
      (after_some a i m 0 _ (as_given 0 a.got) l
      ∙ ap (λ (b : At Regulator). outlook_from b i m) (leads r i n m h n)
      ∙ sym (look_is a.got i m (within_after i (starts_on r) n ∙ h) l)
      ∙ ap (λ (p : Regulator). ahead_of p i m) (sym o.0))
