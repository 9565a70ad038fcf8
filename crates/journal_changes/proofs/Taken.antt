-- What a tick adds to a journal keeps its rules.
-- Assumes nothing.
use Prim.Native.Nat.{ℕ, ◌+◌, ◌-◌, ◌%◌, ◌≤◌, ◌<◌}
use native.Mathlib.Omega.{arith}
use mathlib.Core.Path.{◌≡◌, refl, sym, ap, ◌∙◌}
use mathlib.Core.Bool.{Bool, true, false, not, ◌&&◌, ◌||◌, true≢false}
use mathlib.Core.List.{List, [], ◌∷◌, ◌++◌, append_assoc}
use mathlib.Core.Logic.{◌⊎◌, inl, inr, ⊎_elim}
use borrow.Author.Tests.{eqb-true, eq-eqb, ne_eqb, lt-ltb, leb-true}
use lib.Dec.{eqb, ltb, leb}
use lib.ListN.{length, get_or, set, length-append}
use Rattle.std.specs.Prelude.{Option, None, Some, is_ok}
use Rattle.common.proofs.Cases.{yes}
use Rattle.common.proofs.Joined.{split, and_left, and_right, and_both}
use Rattle.showing.specs.Showing.{field_count}
use Rattle.journal.specs.declared.Progress.{Progress}
use Rattle.journal.specs.declared.Turn.TheVariants.{Stamp, Field, Value}
use Rattle.journal.specs.Stamps.{ticks_between, is_later}
use Rattle.journal.specs.Rules.{highest_value, is_last, may_follow, judged_stamp, judged_field, judged_value, judged_number, checked_from}
use Rattle.journal.proofs.Checks.{ok_on}
use Rattle.journal_bounds.specs.Bounds.{bounded_from}
use Rattle.journal_changes.specs.Changes.{changes_from}
use Rattle.journal_changes.proofs.Fields.{same_on, other_on}

-- ---- a list cut at a place

get_at : (pre : List ℕ) (b : ℕ) (bs : List ℕ) → get_or (pre ++ (b ∷ bs)) (length pre) 0 ≡ b
get_at [] b bs = refl
get_at (p ∷ pre) b bs = get_at pre b bs

pub set_at : (pre : List ℕ) (b n : ℕ) (bs : List ℕ) → set (pre ++ (b ∷ bs)) (length pre) n ≡ pre ++ (n ∷ bs)
set_at [] b n bs = refl
set_at (p ∷ pre) b n bs = ap (λ (l : List ℕ). p ∷ l) (set_at pre b n bs)

-- a later stamp is another one
later_other : (a b : ℕ) → a < 4294967296 → is_later a b ≡ true → eqb b a ≡ false
unfolding is_later ticks_between
later_other a b h e = ne_eqb b a (λ p. let l : 1 ≤ (b + (4294967296 - a)) % 4294967296 = leb-true 1 _ (and_left _ _ e) in omega arith)

-- ---- what stands before the changes of a tick, from the field f on

-- the last stamp, if there is one, is before this tick's, or is this tick's with a lower field
pub record Ready (s : Progress) (stamp f : ℕ) (pre bs : List ℕ) : Type 0 where
  pub turn : s.turn ≡ Stamp
  pub last : s.last ≡ pre ++ bs
  pub place : length pre ≡ f
  pub follows : (s.stamp ≡ None) ⊎ ((a : ℕ) × (s.stamp ≡ Some a) × (a < 4294967296) × ((is_later a stamp ≡ true) ⊎ ((stamp ≡ a) × (s.field < f))))

-- the state after a change
abbrev changed : Progress → ℕ → ℕ → ℕ → Progress
changed s stamp f n =
    record { turn = Stamp; stamp = Some stamp; same = is_last s.stamp stamp; field = f; last = set s.last f n }

module _ (s : Progress) (stamp f b n : ℕ) (pre bs : List ℕ) (k : Ready s stamp f pre (b ∷ bs)) (small : stamp < 4294967296) (fields : f < field_count) (most : leb n (highest_value f) ≡ true) (other : eqb n b ≡ false) where
  abbrev s1 : Progress
  s1 = record { turn = Field; stamp = Some stamp; same = is_last s.stamp stamp; field = s.field; last = s.last }

  abbrev s2 : Progress
  s2 = record { turn = Value; stamp = Some stamp; same = is_last s.stamp stamp; field = f; last = s.last }

  stamp_fine : may_follow s.stamp stamp ≡ true
  stamp_fine =
      ⊎_elim (λ e. rw e)
      (λ x. ⊎_elim (λ l. rw (x.1, later_other x.0 stamp x.2 l, l)) (λ q. rw (x.1, eq-eqb stamp x.0 q.0)) x.3) k.follows

  stamp_judged : judged_number s stamp ≡ Some s1
  unfolding judged_number judged_stamp
  stamp_judged = rw k.turn (sym (yes _ _ _ _ stamp_fine refl))

  field_test : (c : Bool) (g : ℕ) → (c ≡ false) ⊎ (g < f) → (not c || ltb g f) ≡ true
  field_test false g h = refl
  field_test true g (inl e) = absurd (true≢false e)
  field_test true g (inr h) = lt-ltb g f h

  rises : (is_last s.stamp stamp ≡ false) ⊎ (s.field < f)
  rises =
      ⊎_elim (λ e. inl (ap (λ (o : Option ℕ). is_last o stamp) e))
      (λ x. ⊎_elim (λ l. inl (ap (λ (o : Option ℕ). is_last o stamp) x.1 ∙ later_other x.0 stamp x.2 l)) (λ q. inr q.1) x.3)
      k.follows

  field_judged : judged_number s1 f ≡ Some s2
  unfolding judged_number judged_field
  field_judged =
      sym (yes _ _ _ _ (and_both (ltb f field_count) _ (lt-ltb f field_count fields) (field_test (is_last s.stamp stamp) s.field rises)) refl)

  value_fine : (leb n (highest_value f) && not (eqb n (get_or s.last f 0))) ≡ true
  value_fine =
      let e : get_or s.last f 0 ≡ b =
      ap (λ (l : List ℕ). get_or l f 0) k.last ∙ ap (λ (i : ℕ). get_or (pre ++ (b ∷ bs)) i 0) (sym k.place) ∙ get_at pre b bs in
      rw (most, e, other)

  value_judged : judged_number s2 n ≡ Some (changed s stamp f n)
  unfolding judged_number judged_value
  value_judged = sym (yes _ _ _ _ value_fine refl)

  -- the change is taken
  pub change_taken : (more : List ℕ) → is_ok (checked_from s (stamp ∷ f ∷ n ∷ more)) ≡ is_ok (checked_from (changed s stamp f n) more)
  change_taken more =
      ok_on s stamp (f ∷ n ∷ more) stamp_judged ∙ ok_on s1 f (n ∷ more) field_judged ∙ ok_on s2 n more value_judged

  -- and the tick goes on with the next field
  pub change_ready : Ready (changed s stamp f n) stamp (f + 1) (pre ++ (n ∷ [])) bs
  change_ready =
      let m : length pre ≡ f = k.place in
      let l : length (pre ++ (n ∷ [])) ≡ length pre + 1 = length-append pre (n ∷ []) in
      record {
        turn = refl;
        last =
            ap (λ (q : List ℕ). set q f n) k.last ∙ ap (λ (i : ℕ). set (pre ++ (b ∷ bs)) i n) (sym m) ∙ set_at pre b n bs
            ∙ sym (append_assoc pre (n ∷ []) bs);
        place = omega arith;
        follows = inr (stamp, refl, small, inr (refl, omega arith));
      }

-- ---- a tick

kept_ready : (s : Progress) (stamp f b n : ℕ) (pre bs : List ℕ) → n ≡ b → Ready s stamp f pre (b ∷ bs) → Ready s stamp (f + 1) (pre ++ (n ∷ [])) bs
kept_ready s stamp f b n pre bs e k =
    let m : length pre ≡ f = k.place in
    let l : length (pre ++ (n ∷ [])) ≡ length pre + 1 = length-append pre (n ∷ []) in
    record {
      turn = k.turn;
      last = k.last ∙ ap (λ (x : ℕ). pre ++ (x ∷ bs)) (sym e) ∙ sym (append_assoc pre (n ∷ []) bs);
      place = omega arith;
      follows =
          ⊎_elim (λ x. inl x) (λ x. inr (x.0, x.1, x.2, ⊎_elim (λ y. inl y) (λ y. inr (y.0, let z : s.field < f = y.1 in omega arith)) x.3)) k.follows;
    }

-- what stands after a tick: its stamp, or nothing new where no output is another one
pub record After (t : Progress) (stamp : ℕ) (bs ns all : List ℕ) : Type 0 where
  pub turn : t.turn ≡ Stamp
  pub last : t.last ≡ all
  pub since : (ns ≡ bs) ⊎ (t.stamp ≡ Some stamp)

abbrev Taken : Progress → ℕ → List ℕ → List ℕ → List ℕ → List ℕ → List ℕ → Type 0
Taken s stamp changes bs ns all more = (t : Progress) × (is_ok (checked_from s (changes ++ more)) ≡ is_ok (checked_from t more)) × After t stamp bs ns all

-- once a change is there, its stamp is
stamped : (s : Progress) (stamp f : ℕ) (pre bs ns : List ℕ) → s.stamp ≡ Some stamp → Ready s stamp f pre bs → stamp < 4294967296
    → length bs ≡ length ns
    → f + length bs ≤ field_count
    → bounded_from f ns ≡ true
    → (more : List ℕ)
    → (t : Progress) × (is_ok (checked_from s (changes_from stamp f bs ns ++ more)) ≡ is_ok (checked_from t more)) × (t.turn ≡ Stamp) × (t.last ≡ pre ++ ns) × (t.stamp ≡ Some stamp)
unfolding changes_from bounded_from
stamped s stamp f pre [] [] u k h e m bounded more = (s, refl, k.turn, k.last, u)
stamped s stamp f pre [] (n ∷ ns) u k h e m bounded more = absurd (omega arith)
stamped s stamp f pre (b ∷ bs) [] u k h e m bounded more = absurd (omega arith)
stamped s stamp f pre (b ∷ bs) (n ∷ ns) u k h e m bounded more =
    ⊎_elim
    (λ t.
    let r =
    stamped s stamp (f + 1) (pre ++ (n ∷ [])) bs ns u (kept_ready s stamp f b n pre bs (eqb-true n b t) k) h (omega arith) (omega arith)
    (and_right (leb n (highest_value f)) _ bounded) more in (
      r.0,
      ap (λ (l : List ℕ). is_ok (checked_from s (l ++ more))) (same_on stamp f b n bs ns t) ∙ r.1,
      r.2,
      r.3 ∙ append_assoc pre (n ∷ []) ns,
      r.4,
    ))
    (λ t.
    let l : leb n (highest_value f) ≡ true = and_left (leb n (highest_value f)) _ bounded in
    let z : f < field_count = omega arith in
    let r =
    stamped (changed s stamp f n) stamp (f + 1) (pre ++ (n ∷ [])) bs ns refl (change_ready s stamp f b n pre bs k h z l t) h (omega arith) (omega arith)
    (and_right (leb n (highest_value f)) _ bounded) more in (
      r.0,
      ap (λ (q : List ℕ). is_ok (checked_from s (q ++ more))) (other_on stamp f b n bs ns t)
          ∙ change_taken s stamp f b n pre bs k h z l t (changes_from stamp (f + 1) bs ns ++ more) ∙ r.1,
      r.2,
      r.3 ∙ append_assoc pre (n ∷ []) ns,
      r.4,
    ))
    (split (eqb n b))

pub tick_taken : (s : Progress) (stamp f : ℕ) (pre bs ns : List ℕ) → Ready s stamp f pre bs → stamp < 4294967296 → length bs ≡ length ns → f + length bs ≤ field_count
    → bounded_from f ns ≡ true → (more : List ℕ) → Taken s stamp (changes_from stamp f bs ns) bs ns (pre ++ ns) more
unfolding changes_from bounded_from
tick_taken s stamp f pre [] [] k h e m bounded more =
    (s, refl, record { turn = k.turn; last = k.last; since = inl refl })
tick_taken s stamp f pre [] (n ∷ ns) k h e m bounded more = absurd (omega arith)
tick_taken s stamp f pre (b ∷ bs) [] k h e m bounded more = absurd (omega arith)
tick_taken s stamp f pre (b ∷ bs) (n ∷ ns) k h e m bounded more =
    ⊎_elim
    (λ t.
    let r =
    tick_taken s stamp (f + 1) (pre ++ (n ∷ [])) bs ns (kept_ready s stamp f b n pre bs (eqb-true n b t) k) h (omega arith) (omega arith)
    (and_right (leb n (highest_value f)) _ bounded) more in
    let a = r.2 in (
      r.0,
      ap (λ (l : List ℕ). is_ok (checked_from s (l ++ more))) (same_on stamp f b n bs ns t) ∙ r.1,
      record {
        turn = a.turn;
        last = a.last ∙ append_assoc pre (n ∷ []) ns;
        since = ⊎_elim (λ x. inl (λ j. eqb-true n b t j ∷ x j)) (λ x. inr x) a.since;
      },
    ))
    (λ t.
    let l : leb n (highest_value f) ≡ true = and_left (leb n (highest_value f)) _ bounded in
    let z : f < field_count = omega arith in
    let r =
    stamped (changed s stamp f n) stamp (f + 1) (pre ++ (n ∷ [])) bs ns refl (change_ready s stamp f b n pre bs k h z l t) h (omega arith) (omega arith)
    (and_right (leb n (highest_value f)) _ bounded) more in (
      r.0,
      ap (λ (q : List ℕ). is_ok (checked_from s (q ++ more))) (other_on stamp f b n bs ns t)
          ∙ change_taken s stamp f b n pre bs k h z l t (changes_from stamp (f + 1) bs ns ++ more) ∙ r.1,
      record {
        turn = r.2;
        last = r.3 ∙ append_assoc pre (n ∷ []) ns;
        since = inr r.4;
      },
    ))
    (split (eqb n b))
