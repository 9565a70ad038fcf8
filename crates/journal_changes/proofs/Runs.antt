-- What a run gives is taken by the writer.
-- Assumes nothing.
use Prim.Native.Nat.{ℕ, ◌+◌, ◌≤◌, ◌<◌}
use native.Mathlib.Omega.{arith}
use mathlib.Core.Path.{◌≡◌, refl, sym, ap, ◌∙◌, subst}
use mathlib.Core.Bool.{true}
use mathlib.Core.List.{List, [], ◌∷◌, ◌++◌}
use mathlib.Core.Logic.{inl, inr, ⊎_elim}
use borrow.Author.Tests.{eq-eqb, le-leb}
use lib.Dec.{leb}
use lib.ListN.{length, replicate}
use Rattle.common.proofs.Joined.{and_both}
use Rattle.std.specs.Prelude.{None, Some, is_ok}
use Rattle.common.proofs.Cases.{yes}
use Rattle.journal.specs.declared.Progress.{Progress}
use Rattle.journal.specs.declared.Turn.TheVariants.{Stamp}
use Rattle.showing.specs.Showing.{field_count}
use Rattle.journal.specs.Stamps.{stamp_after, ticks_between, is_later}
use Rattle.journal.specs.Rules.{journal_start, checked_from}
use Rattle.journal.proofs.Stamped.{since_after}
use Rattle.journal_changes.specs.Changes.{changes_from, journal_from, Close, CloseFrom, Outputs}
use Rattle.journal_changes.proofs.Fields.{same_on}
use Rattle.journal_changes.proofs.Taken.{Ready, After, tick_taken}

-- ---- stamps

pub after_small : (a k : ℕ) → stamp_after a k < 4294967296
unfolding stamp_after
after_small a k = omega arith

pub after_on : (a d : ℕ) → stamp_after (stamp_after a d) 1 ≡ stamp_after a (d + 1)
unfolding stamp_after
after_on a d = omega arith

after_later : (a d : ℕ) → a < 4294967296 → 1 ≤ d → d ≤ 2147483647 → is_later a (stamp_after a d) ≡ true
unfolding is_later
after_later a d h l m =
    let e : ticks_between a (stamp_after a d) ≡ d = since_after a d h (omega arith) in
    rw e (and_both (leb 1 d) (leb d 2147483647) (le-leb 1 d l) (le-leb d 2147483647 m))

-- ---- a tick without a change

pub no_changes : (stamp f : ℕ) (bs : List ℕ) → changes_from stamp f bs bs ≡ []
unfolding changes_from
no_changes stamp f [] = refl
no_changes stamp f (b ∷ bs) = same_on stamp f b b bs bs (eq-eqb b b refl) ∙ no_changes stamp (f + 1) bs

pub skip : (stamp : ℕ) (before now : List ℕ) (later : List (List ℕ)) → now ≡ before → journal_from stamp before (now ∷ later) ≡ journal_from (stamp_after stamp 1) now later
unfolding journal_from
skip stamp before now later e =
    ap (λ (l : List ℕ). changes_from stamp 0 l now ++ journal_from (stamp_after stamp 1) now later) (sym e)
    ∙ ap (λ (l : List ℕ). l ++ journal_from (stamp_after stamp 1) now later) (no_changes stamp 0 now)

-- ---- after a change, d ticks ago

pub record Since (s : Progress) (stamp d : ℕ) (before : List ℕ) : Type 0 where
  pub turn : s.turn ≡ Stamp
  pub last : s.last ≡ before
  pub at : ℕ
  pub stamped : s.stamp ≡ Some at
  pub small : at < 4294967296
  pub is : stamp ≡ stamp_after at d
  pub some : 1 ≤ d

ended : (s : Progress) → s.turn ≡ Stamp → is_ok (checked_from s []) ≡ true
unfolding checked_from
ended s e = rw e (ap is_ok (sym (yes _ _ _ _ refl refl)))

since_taken : (s : Progress) (stamp d : ℕ) (before : List ℕ) (outs : List (List ℕ)) → Since s stamp d before → length before ≡ field_count → Outputs outs → Close d before outs
    → is_ok (checked_from s (journal_from stamp before outs)) ≡ true
unfolding journal_from
since_taken s stamp d before [] k m o c = ended s k.turn
since_taken s stamp d before (now ∷ later) k m o (inl c) =
    ap (λ (l : List ℕ). is_ok (checked_from s l)) (skip stamp before now later c.0)
    ∙ since_taken s (stamp_after stamp 1) (d + 1) now later
    (record {
      turn = k.turn;
      last = k.last ∙ sym c.0;
      at = k.at;
      stamped = k.stamped;
      small = k.small;
      is = ap (λ (n : ℕ). stamp_after n 1) k.is ∙ after_on k.at d;
      some = omega arith;
    })
    o.0 o.2 c.1
since_taken s stamp d before (now ∷ later) k m o (inr c) =
    let h : stamp < 4294967296 = subst (λ (n : ℕ). n < 4294967296) (sym k.is) (after_small k.at d) in
    let l : is_later k.at stamp ≡ true = ap (is_later k.at) k.is ∙ after_later k.at d k.small k.some c.1 in
    let q : length now ≡ field_count = o.0 in
    let r : Ready s stamp 0 [] before =
    record { turn = k.turn; last = k.last; place = refl; follows = inr (k.at, k.stamped, k.small, inl l) } in
    let t = tick_taken s stamp 0 [] before now r h (m ∙ sym q) (omega arith) o.1 (journal_from (stamp_after stamp 1) now later) in
    let a : After t.0 stamp before now now = t.2 in
    ⊎_elim (λ e. absurd (c.0 e))
    (λ e.
    t.1
    ∙ since_taken t.0 (stamp_after stamp 1) 1 now later
    (record { turn = a.turn; last = a.last; at = stamp; stamped = e; small = h; is = refl; some = omega arith })
    q o.2 c.2)
    a.since

-- ---- before the first change

pub record Idle (s : Progress) (before : List ℕ) : Type 0 where
  pub turn : s.turn ≡ Stamp
  pub last : s.last ≡ before
  pub stamped : s.stamp ≡ None

idle_taken : (s : Progress) (stamp : ℕ) (before : List ℕ) (outs : List (List ℕ)) → stamp < 4294967296 → Idle s before → length before ≡ field_count → Outputs outs → CloseFrom before outs
    → is_ok (checked_from s (journal_from stamp before outs)) ≡ true
unfolding journal_from
idle_taken s stamp before [] h k m o c = ended s k.turn
idle_taken s stamp before (now ∷ later) h k m o (inl c) =
    ap (λ (l : List ℕ). is_ok (checked_from s l)) (skip stamp before now later c.0)
    ∙ idle_taken s (stamp_after stamp 1) now later (after_small stamp 1)
    (record { turn = k.turn; last = k.last ∙ sym c.0; stamped = k.stamped })
    o.0 o.2 c.1
idle_taken s stamp before (now ∷ later) h k m o (inr c) =
    let q : length now ≡ field_count = o.0 in
    let r : Ready s stamp 0 [] before = record { turn = k.turn; last = k.last; place = refl; follows = inl k.stamped } in
    let t = tick_taken s stamp 0 [] before now r h (m ∙ sym q) (omega arith) o.1 (journal_from (stamp_after stamp 1) now later) in
    let a : After t.0 stamp before now now = t.2 in
    ⊎_elim (λ e. absurd (c.0 e))
    (λ e.
    t.1
    ∙ since_taken t.0 (stamp_after stamp 1) 1 now later
    (record { turn = a.turn; last = a.last; at = stamp; stamped = e; small = h; is = refl; some = omega arith })
    q o.2 c.1)
    a.since

-- "the first tick is compared with all fields 0"
pub journal_taken : (stamp : ℕ) (outs : List (List ℕ)) → stamp < 4294967296 → Outputs outs → CloseFrom (replicate field_count 0) outs
    → is_ok (checked_from journal_start (journal_from stamp (replicate field_count 0) outs)) ≡ true
unfolding journal_start
journal_taken stamp outs h o c =
    idle_taken journal_start stamp (replicate field_count 0) outs h (record { turn = refl; last = refl; stamped = refl }) refl o c
