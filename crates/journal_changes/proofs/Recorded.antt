-- What a tick adds, counted and written field by field.
-- Assumes nothing.
use Prim.Native.Nat.{ℕ, suc, ◌+◌, ◌*◌, ◌≤◌, ◌<◌}
use native.Mathlib.Nat.{zero-add}
use native.Mathlib.Omega.{arith}
use mathlib.Core.Path.{◌≡◌, refl, sym, ap, ◌∙◌}
use mathlib.Core.Bool.{true, false}
use mathlib.Core.List.{List, [], ◌∷◌, ◌++◌}
use borrow.Author.Tests.{le-leb, lt-leb}
use lib.Dec.{leb}
use lib.ListN.{length, get_or, drop, set, length-append}
use lib.Seq.{sets, sets-eq}
use Rattle.common.specs.Written.{Written}
use Rattle.common.proofs.Cases.{yes, no}
use Rattle.common.proofs.Written.{sets-append, written_length}
use Rattle.showing.specs.Showing.{field_count}
use Rattle.journal.specs.Stamps.{stamp_after}
use Rattle.journal_changes.specs.declared.ChangesAdded.{ChangesAdded}
use Rattle.journal_changes.specs.Changes.{change_of, changes_from, recorder_answer, list_recorded}
use Rattle.journal_changes.proofs.Fields.{unmoved, moved, one_length, all_length, one_most, here_changes, no_more}

-- ---- one field

module _ (b n : ℕ) where
  pub size_none : n ≡ b → 0 ≡ length (change_of 0 0 b n)
  size_none e = ap length (unmoved 0 0 b n e)

  pub size_some : (n ≡ b → ⊥) → 3 ≡ length (change_of 0 0 b n)
  size_some e = ap length (moved 0 0 b n e)

pub ruleset sizes = (size_none, size_some)

module _ (stamp f b n : ℕ) (old : List ℕ) (at : ℕ) where
  pub put_none : n ≡ b → Written old at (change_of stamp f b n) old at
  put_none e = rw (← unmoved stamp f b n e) (record { bytes = refl; past = omega arith })

  pub put_some : (n ≡ b → ⊥) → Written old at (change_of stamp f b n) (set (set (set old at stamp) (at + 1) f) (at + 2) n) (at + 3)
  put_some e =
      let one : at + 1 ≡ suc at = omega arith in
      let two : at + 2 ≡ suc (suc at) = omega arith in
      let numbers : set (set (set old at stamp) (at + 1) f) (at + 2) n ≡ sets old at (stamp ∷ f ∷ n ∷ []) =
      ap (λ (i : ℕ). set (set (set old at stamp) i f) (at + 2) n) one ∙ ap (λ (i : ℕ). set (set (set old at stamp) (suc at) f) i n) two in
      rw (← moved stamp f b n e) (record { bytes = numbers; past = omega arith })

  -- there is room for it
  pub some_fits : (n ≡ b → ⊥) → {m : ℕ} → at + length (change_of stamp f b n) ≤ m → at + 2 < m
  some_fits e h = omega (arith, ap length (moved stamp f b n e))

-- ---- the fields before the ith

-- are counted: the rest is what is missing to the whole
pub record Counting (bs ns : List ℕ) (count i : ℕ) : Type 0 where
  pub within : i ≤ field_count
  pub few : count ≤ 3 * i
  pub sofar : count + length (changes_from 0 i (drop i bs) (drop i ns)) ≡ length (changes_from 0 0 bs ns)

module _ (bs ns : List ℕ) (k : length bs ≡ field_count) (l : length ns ≡ field_count) where
  pub counting_start : Counting bs ns 0 0
  counting_start = record { within = omega arith; few = omega arith; sofar = omega arith }

  module _ {count i : ℕ} (g : Counting bs ns count i) where
    pub counting_on : {m : ℕ} → i < field_count → m ≡ length (change_of 0 0 (get_or bs i 0) (get_or ns i 0)) → Counting bs ns (count + m) (i + 1)
    counting_on h e =
        let c = change_of 0 i (get_or bs i 0) (get_or ns i 0) in
        let rest = changes_from 0 (i + 1) (drop (i + 1) bs) (drop (i + 1) ns) in
        let p = ap length (here_changes 0 i bs ns (omega arith) (omega arith)) ∙ length-append c rest in
        let q = one_length 0 0 0 i (get_or bs i 0) (get_or ns i 0) in
        record {
          within = omega arith;
          few = omega (arith, g.few, one_most 0 0 (get_or bs i 0) (get_or ns i 0));
          sofar = omega (arith, g.sofar, p, q);
        }

    pub counting_end : field_count ≤ i → count ≡ length (changes_from 0 0 bs ns)
    counting_end h = omega (arith, g.sofar, ap length (no_more 0 i bs ns (omega arith)))

-- are written: writing the rest gives all that the tick adds, and there is room for it
pub record Adding (stamp : ℕ) (bs ns old list : List ℕ) (end i : ℕ) : Type 0 where
  pub within : i ≤ field_count
  pub same : length list ≡ length old
  pub room : end + length (changes_from stamp i (drop i bs) (drop i ns)) ≤ length list
  pub numbers : sets list end (changes_from stamp i (drop i bs) (drop i ns)) ≡ sets old 0 (changes_from stamp 0 bs ns)
  pub past : end + length (changes_from stamp i (drop i bs) (drop i ns)) ≡ length (changes_from stamp 0 bs ns)

module _ (stamp : ℕ) (bs ns old : List ℕ) (k : length bs ≡ field_count) (l : length ns ≡ field_count) where
  pub adding_start : length (changes_from stamp 0 bs ns) ≤ length old → Adding stamp bs ns old old 0 0
  adding_start h = record { within = omega arith; same = refl; room = omega arith; numbers = refl; past = omega arith }

  module _ {list : List ℕ} {end i : ℕ} (g : Adding stamp bs ns old list end i) where
    pub adding_end : field_count ≤ i → Written old 0 (changes_from stamp 0 bs ns) list end
    adding_end h =
        let e : changes_from stamp i (drop i bs) (drop i ns) ≡ [] = no_more stamp i bs ns (omega arith) in
        record { bytes = rw e at g.numbers; past = omega (arith, g.past, ap length e) }

    module _ (h : i < field_count) where
      abbrev one : List ℕ
      one = change_of stamp i (get_or bs i 0) (get_or ns i 0)

      abbrev rest : List ℕ
      rest = changes_from stamp (i + 1) (drop (i + 1) bs) (drop (i + 1) ns)

      here : changes_from stamp i (drop i bs) (drop i ns) ≡ one ++ rest
      here = here_changes stamp i bs ns (omega arith) (omega arith)

      here_length : length (changes_from stamp i (drop i bs) (drop i ns)) ≡ length one + length rest
      here_length = ap length here ∙ length-append one rest

      pub change_fits : end + length one ≤ length list
      change_fits = omega (arith, g.room, here_length)

      pub adding_on : {next : List ℕ} {r : ℕ} → Written list end one next r → Adding stamp bs ns old next r (i + 1)
      adding_on {next} {r} p =
          record {
            within = omega arith;
            same = written_length p ∙ g.same;
            room = omega (arith, g.room, here_length, p.past, written_length p);
            numbers = rw (p.bytes, p.past) (sym (sets-append list end one rest) ∙ ap (sets list end) (sym here) ∙ g.numbers);
            past = omega (arith, g.past, here_length, p.past);
          }

-- ---- the whole answer

module _ (stamp : ℕ) (bs ns old : List ℕ) {count : ℕ} (c : count ≡ length (changes_from 0 0 bs ns)) where
  counted : length (changes_from stamp 0 bs ns) ≡ count
  counted = all_length stamp 0 0 0 bs ns ∙ sym c

  pub full : length old < count → (◌≡◌ {A = ChangesAdded} (record { refusal = 7; count = 0; stamp = stamp }) (recorder_answer stamp bs ns (length old))) × (old ≡ list_recorded stamp bs ns old)
  unfolding recorder_answer list_recorded
  full h =
      let t : leb (length (changes_from stamp 0 bs ns)) (length old) ≡ false = lt-leb (length (changes_from stamp 0 bs ns)) (length old) (omega (arith, counted)) in
      (no _ _ _ _ t refl, no _ _ _ _ t refl)

  module _ (h : count ≤ length old) where
    pub changes_fit : length (changes_from stamp 0 bs ns) ≤ length old
    changes_fit = omega (arith, counted)

    pub added : {new : List ℕ} {r next : ℕ} → Written old 0 (changes_from stamp 0 bs ns) new r → next ≡ stamp_after stamp 1
        → (◌≡◌ {A = ChangesAdded} (record { refusal = 0; count = count; stamp = next }) (recorder_answer stamp bs ns (length old))) × (new ≡ list_recorded stamp bs ns old)
    unfolding recorder_answer list_recorded
    added p e =
        let t : leb (length (changes_from stamp 0 bs ns)) (length old) ≡ true = le-leb (length (changes_from stamp 0 bs ns)) (length old) changes_fit in
        (rw (e, ← counted) (yes _ _ _ _ t refl), yes _ _ _ _ t (p.bytes ∙ sets-eq (changes_from stamp 0 bs ns) old 0 (omega (arith, changes_fit)) ∙ rw zero-add))
