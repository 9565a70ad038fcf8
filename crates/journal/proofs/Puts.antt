-- Text that is written group by group and number by number.
-- Assumes nothing.
use mathlib.Core.Path.{◌≡◌, refl, sym, ◌∙◌, ap}
use mathlib.Core.Bool.{Bool, true, false, true≢false}
use mathlib.Core.List.{List, [], ◌∷◌, ◌++◌}
use mathlib.Core.Logic.{⊎_elim}
use Prim.Native.Nat.{ℕ, suc, ◌+◌, ◌-◌, ◌/◌, ◌%◌, ◌<◌, ◌≤◌}
use native.Mathlib.Nat.{zero-add}
use native.Mathlib.Numerals.{add-one}
use native.Mathlib.Omega.{arith}
use borrow.Author.Tests.{lt-leb, le-leb, leb-true}
use lib.Dec.{leb}
use lib.ListN.{length, get_or, set, drop, length-append, length-set, drop_of_length-le}
use lib.Seq.{sets, sets-eq, drop-cons}
use Rattle.std.specs.Prelude.{Result, Ok, Err, ⊤, is_ok}
use Rattle.common.specs.Choice.{choose}
use Rattle.common.specs.Written.{Written}
use Rattle.common.proofs.Cases.{yes, no}
use Rattle.common.proofs.Joined.{split}
use Rattle.common.proofs.Written.{sets-append, written_length}
use Rattle.journal.specs.declared.TextWritten.{TextWritten}
use Rattle.journal.specs.declared.Refused.{Refused}
use Rattle.journal.specs.declared.Refused.TheVariants.{TooShort}
use Rattle.journal.specs.Rules.{journal_start, checked_from}
use Rattle.journal.specs.Texts.{groups_of, journal_text, text_written, writer_answer, buffer_after}
use Rattle.journal.proofs.Groups.{short, long, some_group}

-- the groups before `rest` are written: writing the rest gives the number
pub record Going (old : List ℕ) (at n : ℕ) (buffer : List ℕ) (rest end : ℕ) : Type 0 where
  pub small : rest < 4294967296
  pub same : length buffer ≡ length old
  pub room : end + length (groups_of rest) ≤ length buffer
  pub bytes : sets buffer end (groups_of rest) ≡ sets old at (groups_of n)
  pub past : end + length (groups_of rest) ≡ at + length (groups_of n)

module _ (old : List ℕ) (at n : ℕ) where
  pub going_start : n < 4294967296 → at + length (groups_of n) ≤ length old → Going old at n old n at
  going_start h l = record { small = h; same = refl; room = l; bytes = refl; past = refl }

  module _ {buffer : List ℕ} {rest end : ℕ} (g : Going old at n buffer rest end) where
    pub here : end < length buffer
    here = omega (arith, g.room, some_group rest)

    pub going_on : 128 ≤ rest → Going old at n (set buffer end (128 + rest % 128)) (rest / 128) (end + 1)
    going_on h =
        let e : groups_of rest ≡ (128 + rest % 128) ∷ groups_of (rest / 128) = long rest h g.small in
        let k : length (groups_of rest) ≡ suc (length (groups_of (rest / 128))) = ap length e in
        record {
          small = omega (arith, g.small);
          same = length-set buffer end (128 + rest % 128) ∙ g.same;
          room = omega (arith, g.room, length-set buffer end (128 + rest % 128));
          bytes = rw add-one (ap (sets buffer end) (sym e) ∙ g.bytes);
          past = omega (arith, g.past);
        }

    pub going_end : rest < 128 → Written old at (groups_of n) (set buffer end rest) (end + 1)
    going_end h =
        let e : groups_of rest ≡ rest ∷ [] = short rest h in
        let k : length (groups_of rest) ≡ 1 = ap length e in
        record { bytes = ap (sets buffer end) (sym e) ∙ g.bytes; past = omega (arith, g.past) }

-- the ith number's groups, and the text after them
here_text : (ns : List ℕ) (i : ℕ) → i < length ns → journal_text (drop i ns) ≡ groups_of (get_or ns i 0) ++ journal_text (drop (i + 1) ns)
unfolding journal_text
here_text ns i h = rw (drop-cons ns i 0 h, add-one)

here_length : (ns : List ℕ) (i : ℕ) → i < length ns → length (journal_text (drop i ns)) ≡ length (groups_of (get_or ns i 0)) + length (journal_text (drop (i + 1) ns))
here_length ns i h = ap length (here_text ns i h) ∙ length-append (groups_of (get_or ns i 0)) (journal_text (drop (i + 1) ns))

end_text : (ns : List ℕ) (i : ℕ) → length ns ≤ i → journal_text (drop i ns) ≡ []
unfolding journal_text
end_text ns i h = rw (drop_of_length-le ns h)

-- the numbers before the ith took what is no longer left of the room
pub record Left (ns : List ℕ) (room left i : ℕ) : Type 0 where
  pub within : i ≤ length ns
  pub less : left ≤ room
  pub took : left + length (journal_text ns) ≡ room + length (journal_text (drop i ns))

module _ (ns : List ℕ) (room : ℕ) where
  pub left_start : Left ns room room 0
  left_start = record { within = omega arith; less = omega arith; took = refl }

  module _ {left i : ℕ} (g : Left ns room left i) where
    pub left_on : {n : ℕ} → i < length ns → n ≡ length (groups_of (get_or ns i 0)) → n ≤ left → Left ns room (left - n) (i + 1)
    left_on h e k = record { within = omega arith; less = omega (arith, g.less); took = omega (arith, g.took, here_length ns i h) }

    pub left_no : {n : ℕ} → i < length ns → n ≡ length (groups_of (get_or ns i 0)) → left < n → false ≡ leb (length (journal_text ns)) room
    left_no h e k = sym (lt-leb (length (journal_text ns)) room (omega (arith, g.took, here_length ns i h)))

    pub left_yes : length ns ≤ i → true ≡ leb (length (journal_text ns)) room
    left_yes h = sym (le-leb (length (journal_text ns)) room (omega (arith, g.took, g.less, ap length (end_text ns i h))))

-- the numbers before the ith are written: writing the rest gives the text
pub record Listing (ns old : List ℕ) (buffer : List ℕ) (end i : ℕ) : Type 0 where
  pub within : i ≤ length ns
  pub same : length buffer ≡ length old
  pub room : end + length (journal_text (drop i ns)) ≤ length buffer
  pub bytes : sets buffer end (journal_text (drop i ns)) ≡ sets old 0 (journal_text ns)
  pub past : end + length (journal_text (drop i ns)) ≡ length (journal_text ns)

module _ (ns old : List ℕ) where
  pub listing_start : length (journal_text ns) ≤ length old → Listing ns old old 0 0
  listing_start h = record { within = omega arith; same = refl; room = omega arith; bytes = refl; past = omega arith }

  module _ {buffer : List ℕ} {end i : ℕ} (g : Listing ns old buffer end i) where
    pub number_fits : i < length ns → end + length (groups_of (get_or ns i 0)) ≤ length buffer
    number_fits h = omega (arith, g.room, here_length ns i h)

    pub listing_on : {next : List ℕ} {r : ℕ} → i < length ns → Written buffer end (groups_of (get_or ns i 0)) next r → Listing ns old next r (i + 1)
    listing_on {next} {r} h p =
        let e = here_text ns i h in
        let k : length next ≡ length buffer = written_length p in
        record {
          within = omega arith;
          same = k ∙ g.same;
          room = omega (arith, g.room, here_length ns i h, p.past);
          bytes = rw (p.bytes, p.past) (sym (sets-append buffer end (groups_of (get_or ns i 0)) (journal_text (drop (i + 1) ns))) ∙ ap (sets buffer end) (sym e) ∙ g.bytes);
          past = omega (arith, g.past, here_length ns i h, p.past);
        }

    pub listing_end : length ns ≤ i → Written old 0 (journal_text ns) buffer end
    listing_end h =
        let e : journal_text (drop i ns) ≡ [] = end_text ns i h in
        record { bytes = rw e at g.bytes; past = omega (arith, g.past, ap length e) }

-- the whole answer
module _ (ns old : List ℕ) where
  pub refused : {i : ℕ} → Err i ≡ checked_from journal_start ns
      → (◌≡◌ {A = TextWritten} (record { refusal = 8; place = i; length = 0 }) (writer_answer ns (length old))) × (old ≡ buffer_after ns old)
  unfolding writer_answer buffer_after choose
  refused c = (rw (← c) refl, rw (← c) refl)

  module _ (c : Ok tt ≡ checked_from journal_start ns) {b : Bool} (e : b ≡ leb (length (journal_text ns)) (length old)) where
    pub wrote : {new : List ℕ} {r : ℕ} → b ≡ true → Written old 0 (journal_text ns) new r
        → (◌≡◌ {A = TextWritten} (record { refusal = 0; place = 0; length = r }) (writer_answer ns (length old))) × (new ≡ buffer_after ns old)
    unfolding writer_answer buffer_after
    wrote {new} {r} t p =
        let z : leb (length (journal_text ns)) (length old) ≡ true = sym e ∙ t in
        let q : r ≡ length (journal_text ns) = omega (arith, p.past) in (
          rw (q, ← c) (yes _ _ _ _ z refl),
          rw (← c) (yes _ _ _ _ refl (yes _ _ _ _ z (p.bytes ∙ sets-eq (journal_text ns) old 0 (omega (arith, leb-true (length (journal_text ns)) (length old) z)) ∙ rw zero-add))),
        )

    pub unwritten : b ≡ false
        → (◌≡◌ {A = TextWritten} (record { refusal = 7; place = 0; length = 0 }) (writer_answer ns (length old))) × (old ≡ buffer_after ns old)
    unfolding writer_answer buffer_after
    unwritten t = (rw (← c) (no _ _ _ _ (sym e ∙ t) refl), rw (← c) (yes _ _ _ _ refl (no _ _ _ _ (sym e ∙ t) refl)))

-- the same where the answer of the check goes on in another error type
ok_is : (r : Result ⊤ ℕ) → is_ok r ≡ true → Ok tt ≡ r
ok_is (Ok u) k = refl
ok_is (Err i) k = absurd (true≢false (sym k))

module _ (ns old : List ℕ) where
  pub refused_text : is_ok (checked_from journal_start ns) ≡ false → old ≡ buffer_after ns old
  unfolding buffer_after
  refused_text k = no _ _ _ _ k refl

  pub unwritten_text : leb (length (journal_text ns)) (length old) ≡ false → old ≡ buffer_after ns old
  unfolding buffer_after
  unwritten_text t =
      ⊎_elim (λ k. yes _ _ _ _ k (no _ _ _ _ t refl)) (λ k. no _ _ _ _ k refl) (split (is_ok (checked_from journal_start ns)))

  module _ {kept : Result ⊤ ℕ} {m : Result ⊤ Refused} {u : ⊤} {b : Bool} (c : kept ≡ checked_from journal_start ns) (v : is_ok m ≡ is_ok kept) (w : m ≡ Ok u) (e : b ≡ leb (length (journal_text ns)) (length old)) where
    kept_is : Ok tt ≡ checked_from journal_start ns
    kept_is = ok_is (checked_from journal_start ns) (ap is_ok (sym c) ∙ sym v ∙ ap is_ok w)

    pub unwritten_answer : b ≡ false → text_written (Err TooShort) ≡ writer_answer ns (length old)
    unwritten_answer t = (unwritten ns old kept_is e t).0

    pub wrote_both : {new : List ℕ} {r : ℕ} → b ≡ true → Written old 0 (journal_text ns) new r → (text_written (Ok r) ≡ writer_answer ns (length old)) × (new ≡ buffer_after ns old)
    wrote_both t p = wrote ns old kept_is e t p

pub room_for : {a n : ℕ} {b : Bool} → b ≡ leb a n → b ≡ true → a ≤ n
room_for {a} {n} e t = leb-true a n (sym e ∙ t)

pub ruleset answers = (room_for, refused_text, unwritten_text)
