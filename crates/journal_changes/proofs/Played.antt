-- Nothing is lost: a journal played forward gives back each tick's outputs.
-- Assumes nothing.
use Prim.Native.Nat.{ℕ, ◌+◌, ◌≤◌, ◌<◌}
use native.Mathlib.Omega.{arith}
use mathlib.Core.Path.{◌≡◌, refl, sym, ap, ◌∙◌}
use mathlib.Core.List.{List, [], ◌∷◌, ◌++◌, append_assoc}
use mathlib.Core.Logic.{inl, inr, ⊎_elim}
use borrow.Author.Tests.{eqb-true, eq-eqb, ne_eqb}
use lib.Dec.{eqb}
use lib.ListN.{length, set, length-append}
use Rattle.common.proofs.Cases.{yes, no}
use Rattle.common.proofs.Joined.{split}
use Rattle.showing.specs.Showing.{field_count}
use Rattle.journal.specs.Stamps.{stamp_after}
use Rattle.journal_changes.specs.Changes.{changes_from, journal_from, Close, Point, at_stamp, played_from}
use Rattle.journal_changes.proofs.Fields.{same_on, other_on}
use Rattle.journal_changes.proofs.Taken.{set_at}
use Rattle.journal_changes.proofs.Runs.{after_small, after_on, skip}

-- the changes of a tick, played, give its outputs
played_changes : (stamp f : ℕ) (pre bs ns more : List ℕ) → length pre ≡ f → length bs ≡ length ns
    → at_stamp stamp (pre ++ bs) (changes_from stamp f bs ns ++ more) ≡ at_stamp stamp (pre ++ ns) more
unfolding changes_from at_stamp
played_changes stamp f pre [] [] more p e = refl
played_changes stamp f pre [] (n ∷ ns) more p e = absurd (omega arith)
played_changes stamp f pre (b ∷ bs) [] more p e = absurd (omega arith)
played_changes stamp f pre (b ∷ bs) (n ∷ ns) more p e =
    let l : length (pre ++ (n ∷ [])) ≡ length pre + 1 = length-append pre (n ∷ []) in
    let r = played_changes stamp (f + 1) (pre ++ (n ∷ [])) bs ns more (omega arith) (omega arith) in
    let h : at_stamp stamp (pre ++ (n ∷ bs)) (changes_from stamp (f + 1) bs ns ++ more) ≡ at_stamp stamp (pre ++ (n ∷ ns)) more =
    ap (λ (q : List ℕ). at_stamp stamp q (changes_from stamp (f + 1) bs ns ++ more)) (sym (append_assoc pre (n ∷ []) bs)) ∙ r
    ∙ ap (λ (q : List ℕ). at_stamp stamp q more) (append_assoc pre (n ∷ []) ns) in
    ⊎_elim
    (λ t.
    ap (λ (q : List ℕ). at_stamp stamp (pre ++ (b ∷ bs)) (q ++ more)) (same_on stamp f b n bs ns t)
    ∙ ap (λ (x : ℕ). at_stamp stamp (pre ++ (x ∷ bs)) (changes_from stamp (f + 1) bs ns ++ more)) (sym (eqb-true n b t)) ∙ h)
    (λ t.
    ap (λ (q : List ℕ). at_stamp stamp (pre ++ (b ∷ bs)) (q ++ more)) (other_on stamp f b n bs ns t)
    ∙ sym (yes _ _ _ _ (eq-eqb stamp stamp refl) refl)
    ∙ ap (λ (q : List ℕ). at_stamp stamp q (changes_from stamp (f + 1) bs ns ++ more)) (ap (λ (i : ℕ). set (pre ++ (b ∷ bs)) i n) (sym p) ∙ set_at pre b n bs) ∙ h)
    (split (eqb n b))

-- a tick that has a change has one at the front
pub record Begins (stamp : ℕ) (changes : List ℕ) : Type 0 where
  pub field : ℕ
  pub value : ℕ
  pub rest : List ℕ
  pub is : changes ≡ stamp ∷ (field ∷ (value ∷ rest))

some_change : (stamp f : ℕ) (bs ns : List ℕ) → length bs ≡ length ns → (ns ≡ bs → ⊥) → Begins stamp (changes_from stamp f bs ns)
unfolding changes_from
some_change stamp f [] [] e d = absurd (d refl)
some_change stamp f [] (n ∷ ns) e d = absurd (omega arith)
some_change stamp f (b ∷ bs) [] e d = absurd (omega arith)
some_change stamp f (b ∷ bs) (n ∷ ns) e d =
    ⊎_elim
    (λ t.
    let r = some_change stamp (f + 1) bs ns (omega arith) (λ q. d (λ j. eqb-true n b t j ∷ q j)) in
    record { field = r.field; value = r.value; rest = r.rest; is = same_on stamp f b n bs ns t ∙ r.is })
    (λ t. record { field = f; value = n; rest = changes_from stamp (f + 1) bs ns; is = other_on stamp f b n bs ns t })
    (split (eqb n b))

other_stamps : (a d e : ℕ) → d < e → e ≤ 2147483647 → stamp_after a e ≡ stamp_after a d → ⊥
unfolding stamp_after
other_stamps a d e h m p = omega arith

abbrev Fields : List (List ℕ) → Type 0
Fields [] = Unit {0}
Fields (now ∷ later) = (length now ≡ field_count) × Fields later

-- what comes later does not stand at an earlier stamp
untouched : (a d e : ℕ) (x before : List ℕ) (outs : List (List ℕ)) → d < e → length before ≡ field_count → Fields outs → Close e before outs
    → at_stamp (stamp_after a d) x (journal_from (stamp_after a e) before outs) ≡ record { outputs = x; rest = journal_from (stamp_after a e) before outs }
unfolding journal_from at_stamp
untouched a d e x before [] h m o c = refl
untouched a d e x before (now ∷ later) h m o (inl c) =
    let q : journal_from (stamp_after a e) before (now ∷ later) ≡ journal_from (stamp_after a (e + 1)) now later =
    skip (stamp_after a e) before now later c.0 ∙ ap (λ (s : ℕ). journal_from s now later) (after_on a e) in
    ap (at_stamp (stamp_after a d) x) q ∙ untouched a d (e + 1) x now later (omega arith) o.0 o.1 c.1
    ∙ ap (λ (l : List ℕ). record { outputs = x; rest = l }) (sym q)
untouched a d e x before (now ∷ later) h m o (inr c) =
    let b = some_change (stamp_after a e) 0 before now (m ∙ sym o.0) c.0 in
    let more = journal_from (stamp_after (stamp_after a e) 1) now later in
    ap (λ (l : List ℕ). at_stamp (stamp_after a d) x (l ++ more)) b.is
    ∙ sym (no _ _ _ _ (ne_eqb (stamp_after a e) (stamp_after a d) (other_stamps a d e h c.1)) refl)
    ∙ ap (λ (l : List ℕ). record { outputs = x; rest = l ++ more }) (sym b.is)

-- a tick with changes, and then what comes after it
after_none : (stamp : ℕ) → stamp < 4294967296 → stamp_after stamp 0 ≡ stamp
unfolding stamp_after
after_none stamp h = omega arith

played_change : (stamp : ℕ) (before now : List ℕ) (later : List (List ℕ)) → stamp < 4294967296 → length before ≡ field_count → Fields (now ∷ later) → Close 1 now later
    → played_from (length later) (stamp_after stamp 1) now (journal_from (stamp_after stamp 1) now later) ≡ later
    → played_from (length (now ∷ later)) stamp before (journal_from stamp before (now ∷ later)) ≡ now ∷ later
unfolding played_from journal_from
played_change stamp before now later h m o c ih =
    let more = journal_from (stamp_after stamp 1) now later in
    let p : at_stamp stamp before (changes_from stamp 0 before now ++ more) ≡ record { outputs = now; rest = more } =
    played_changes stamp 0 [] before now more refl (m ∙ sym o.0)
    ∙ ap (λ (s : ℕ). at_stamp s now more) (sym (after_none stamp h)) ∙ untouched stamp 0 1 now now later (omega arith) o.0 o.1 c in
    ap (λ (x : Point). x.outputs ∷ played_from (length later) (stamp_after stamp 1) x.outputs x.rest) p ∙ ap (λ (l : List (List ℕ)). now ∷ l) ih

-- from the tick d after the last change on
played_since : (a d : ℕ) (before : List ℕ) (outs : List (List ℕ)) → length before ≡ field_count → Fields outs → Close d before outs
    → played_from (length outs) (stamp_after a d) before (journal_from (stamp_after a d) before outs) ≡ outs
unfolding played_from journal_from
played_since a d before [] m o c = refl
played_since a d before (now ∷ later) m o (inl c) =
    let s = stamp_after a d in
    let q : journal_from s before (now ∷ later) ≡ journal_from (stamp_after a (d + 1)) now later =
    skip s before now later c.0 ∙ ap (λ (z : ℕ). journal_from z now later) (after_on a d) in
    let p : at_stamp s before (journal_from s before (now ∷ later)) ≡ record { outputs = now; rest = journal_from (stamp_after a (d + 1)) now later } =
    ap (at_stamp s before) q ∙ untouched a d (d + 1) before now later (omega arith) o.0 o.1 c.1
    ∙ ap (λ (l : List ℕ). record { outputs = l; rest = journal_from (stamp_after a (d + 1)) now later }) (sym c.0) in
    ap (λ (x : Point). x.outputs ∷ played_from (length later) (stamp_after s 1) x.outputs x.rest) p
    ∙ ap (λ (z : ℕ). now ∷ played_from (length later) z now (journal_from (stamp_after a (d + 1)) now later)) (after_on a d)
    ∙ ap (λ (l : List (List ℕ)). now ∷ l) (played_since a (d + 1) now later o.0 o.1 c.1)
played_since a d before (now ∷ later) m o (inr c) =
    played_change (stamp_after a d) before now later (after_small a d) m o c.2 (played_since (stamp_after a d) 1 now later o.0 o.1 c.2)

-- "playing a journal forward gives back each tick's outputs", from a change on
pub nothing_lost : (stamp : ℕ) (before now : List ℕ) (later : List (List ℕ)) → stamp < 4294967296 → length before ≡ field_count → Fields (now ∷ later) → Close 1 now later
    → played_from (length (now ∷ later)) stamp before (journal_from stamp before (now ∷ later)) ≡ now ∷ later
nothing_lost stamp before now later h m o c = played_change stamp before now later h m o c (played_since stamp 1 now later o.0 o.1 c)
