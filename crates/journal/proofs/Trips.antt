-- Reading what was written gives the list, and what is read whole is the text that writing makes: a journal has one possible text.
-- Assumes nothing.
use mathlib.Core.Path.{◌≡◌, refl, sym, ◌∙◌, ap, subst}
use mathlib.Core.Bool.{Bool, true, false, ◌&&◌, true≢false}
use mathlib.Core.List.{List, [], ◌∷◌, ◌++◌}
use Prim.Native.Nat.{ℕ, zero, suc, ◌+◌, ◌*◌, ◌/◌, ◌%◌, ◌^◌, ◌<◌, ◌≤◌}
use native.Mathlib.Nat.{pow-suc}
use native.Mathlib.Numerals.{add-one}
use native.Mathlib.Omega.{arith}
use borrow.Author.Tests.{ltb-true, ltb-false, lt-ltb, le-ltb, eqb-true, eqb-false}
use lib.Dec.{ltb, eqb, leb}
use lib.ListN.{length, get_or, take, drop, length-append, length-drop}
use lib.Seq.{take_at, drop_at, take-add, take-length, get_or-drop}
use Rattle.common.specs.Choice.{choose}
use Rattle.std.specs.Prelude.{Option, Some, Result, Ok, Err, ⊤, is_ok}
use Rattle.std.proofs.lemmas.Option.{none-some, same_Some}
use Rattle.common.proofs.Cases.{yes, no, chosen}
use Rattle.common.proofs.Joined.{and_left, and_right}
use Rattle.journal.specs.declared.Progress.{Progress}
use Rattle.journal.specs.Rules.{journal_start, judged_number, has_ended, checked_from}
use Rattle.journal.proofs.Checks.{check_no, ok_on}
use Rattle.journal.specs.declared.Number.{Number}
use Rattle.journal.specs.declared.TextWritten.{TextWritten}
use Rattle.journal.specs.Texts.{groups_up_to, groups_of, journal_text, answer_by, writer_answer, buffer_after}
use Rattle.journal.specs.Reading.{group_before, decoded_up_to, first_number, Prefix, prefix_up_to, prefix_from, reader_answer, list_after}
use Rattle.journal.proofs.Groups.{in_short, in_long}
use Rattle.journal.proofs.Decoded.{none_before, more_none, more_some, numbered, is_number, decoded_is}
use Rattle.journal.proofs.Scans.{by_test, by_option, none_in, scan_none, scan_more, nothing, one_more, one_bad}

abbrev pub Small : List ℕ → Type 0
Small ns = (i : ℕ) → get_or ns i 0 < 4294967296

abbrev pub Bytes : List ℕ → Type 0
Bytes bs = (i : ℕ) → get_or bs i 0 < 256

-- ---- one step of the decoder

module _ (k b : ℕ) (bs : List ℕ) where
  decode_last : b < 128 → decoded_up_to (suc k) (b ∷ bs) ≡ Some (record { value = b; count = 1 })
  unfolding decoded_up_to
  decode_last h = sym (yes _ _ _ _ (lt-ltb b 128 h) refl)

  decode_more : 128 ≤ b → decoded_up_to (suc k) (b ∷ bs) ≡ group_before b (decoded_up_to k bs)
  unfolding decoded_up_to
  decode_more h = sym (no _ _ _ _ (le-ltb b 128 h) refl)

more_is : (b : ℕ) (r : Number) → (r.value ≡ 0 → ⊥) → group_before b (Some r) ≡ Some (record { value = b % 128 + 128 * r.value; count = r.count + 1 })
more_is b r h = sym (more_some b r h)

-- ---- there and back

number_of : (v w c d : ℕ) → v ≡ w → c ≡ d → ◌≡◌ {A = Option Number} (Some (record { value = v; count = c })) (Some (record { value = w; count = d }))
number_of v w c d p q = rw (p, q)

back : (k n : ℕ) (rest : List ℕ) → n < 128 ^ suc k
    → decoded_up_to (suc k) (groups_up_to (suc k) n ++ rest) ≡ Some (record { value = n; count = length (groups_up_to (suc k) n) })
back zero n rest h =
    let l : n < 128 = omega (arith, pow-suc 128 0) in rw (in_short 0 n l) (decode_last 0 n rest l)
back (suc k) n rest h =
    by_test (ltb n 128)
    (λ t. let l : n < 128 = ltb-true n 128 t in rw (in_short (suc k) n l) (decode_last (suc k) n rest l))
    (λ t. let l : 128 ≤ n = ltb-false n 128 t in
    let p : n / 128 < 128 ^ suc k = omega (arith, pow-suc 128 (suc k)) in
    let gs : List ℕ = groups_up_to (suc k) (n / 128) in
    let r : Number = record { value = n / 128; count = length gs } in
    rw (in_long (suc k) n l) (decode_more (suc k) (128 + n % 128) (gs ++ rest) (omega arith)
    ∙ ap (group_before (128 + n % 128)) (back k (n / 128) rest p)
    ∙ more_is (128 + n % 128) r (λ z. omega arith)
    ∙ number_of ((128 + n % 128) % 128 + 128 * (n / 128)) n (length gs + 1) (suc (length gs)) (omega arith) (add-one (length gs))))

number_back : (n : ℕ) (rest : List ℕ) → n < 4294967296 → first_number (groups_of n ++ rest) ≡ Some (record { value = n; count = length (groups_of n) })
unfolding groups_of
number_back n rest h =
    let e : decoded_up_to 5 (groups_up_to 5 n ++ rest) ≡ Some (record { value = n; count = length (groups_up_to 5 n) }) = back 4 n rest (omega arith) in
    sym (numbered (groups_up_to 5 n ++ rest) (sym e) h)

-- the list that ends with a record
ended_ok : (b : Bool) → is_ok (choose {A = Result ⊤ ℕ} b (Ok tt) (Err 0)) ≡ true → b ≡ true
unfolding choose
ended_ok true e = refl
ended_ok false e = e

pub read_written : (s : Progress) (ns : List ℕ) → Small ns → is_ok (checked_from s ns) ≡ true
    → prefix_from s (journal_text ns) ≡ record { numbers = ns; stop = length (journal_text ns); whole = true }
unfolding journal_text checked_from
read_written s [] small w = scan_none s [] (none_in [] (omega arith)) ∙ ap (λ (b : Bool). record { numbers = []; stop = 0; whole = b }) (ended_ok (has_ended s.turn) w)
read_written s (n ∷ ns) small w =
    let e = number_back n (journal_text ns) (small 0) in
    by_option (judged_number s n)
    (λ t. absurd (true≢false (sym w ∙ ap is_ok (check_no s n ns t))))
    (λ next t. let o : is_ok (checked_from next ns) ≡ true = sym (ok_on s n ns t) ∙ w in
    scan_more s (groups_of n ++ journal_text ns) e t
    ∙ rw (drop_at (groups_of n) (journal_text ns) (length (groups_of n)) refl, read_written next ns (λ i. small (suc i)) o, length-append))

-- ---- and back there

forth : (k : ℕ) (bs : List ℕ) → Bytes bs → {n : Number} → decoded_up_to k bs ≡ Some n → take n.count bs ≡ groups_up_to k n.value
unfolding decoded_up_to
forth zero bs small {n} h = absurd (none-some n h)
forth (suc k) [] small {n} h = absurd (none-some n h)
forth (suc k) (b ∷ bs) small {n} h =
    by_test (ltb b 128)
    (λ t. let l : b < 128 = ltb-true b 128 t in
    let e : record { value = b; count = 1 } ≡ n = same_Some (record { value = b; count = 1 }) n (sym (decode_last k b bs l) ∙ h) in
    subst (λ (x : Number). take x.count (b ∷ bs) ≡ groups_up_to (suc k) x.value) e (sym (in_short k b l)))
    (λ t. let l : 128 ≤ b = ltb-false b 128 t in
    let m : group_before b (decoded_up_to k bs) ≡ Some n = sym (decode_more k b bs l) ∙ h in
    by_option (decoded_up_to k bs)
    (λ u. absurd (none-some n (sym (none_before b) ∙ sym (ap (group_before b) u) ∙ m)))
    (λ r u. let q : group_before b (Some r) ≡ Some n = sym (ap (group_before b) u) ∙ m in
    by_test (eqb r.value 0)
    (λ z. absurd (none-some n (more_none b r (eqb-true r.value 0 z) ∙ q)))
    (λ z. let y : r.value ≡ 0 → ⊥ = eqb-false r.value 0 z in
    let v : ℕ = b % 128 + 128 * r.value in
    let low : 128 + v % 128 ≡ b = omega (arith, small 0) in
    let high : v / 128 ≡ r.value = omega arith in
    let e : record { value = v; count = r.count + 1 } ≡ n = same_Some (record { value = v; count = r.count + 1 }) n (sym (more_is b r y) ∙ q) in
    subst (λ (x : Number). take x.count (b ∷ bs) ≡ groups_up_to (suc k) x.value) e
    (rw (add-one, in_long k v (omega arith), low, high) (ap (λ (l : List ℕ). b ∷ l) (forth k bs (λ i. small (suc i)) u))))))

number_forth : (bs : List ℕ) → Bytes bs → {n : Number} → first_number bs ≡ Some n → take n.count bs ≡ groups_of n.value
unfolding groups_of
number_forth bs small e = forth 5 bs small (decoded_is bs e)

dropped : (bs : List ℕ) (c : ℕ) → Bytes bs → Bytes (drop c bs)
dropped bs c small i = rw get_or-drop (small (c + i))

text_forth : (k : ℕ) (s : Progress) (bs : List ℕ) → Bytes bs → journal_text (prefix_up_to k s bs).numbers ≡ take (prefix_up_to k s bs).stop bs
unfolding journal_text prefix_up_to
text_forth zero s bs small = refl
text_forth (suc k) s bs small =
    by_option (first_number bs)
    (λ z. rw (nothing (suc k) s bs z))
    (λ n e. by_option (judged_number s n.value)
    (λ t. rw (one_bad k s bs e t))
    (λ next t. let r : Prefix = prefix_up_to k next (drop n.count bs) in
    rw (one_more k s bs e t, take-add n.count r.stop bs, ← text_forth k next (drop n.count bs) (dropped bs n.count small), number_forth bs small e)))

-- what is read whole ends with the bytes, and its numbers keep the rules
ended_is : (s : Progress) → has_ended s.turn ≡ true → is_ok (checked_from s []) ≡ true
unfolding checked_from
ended_is s t = ap is_ok (sym (yes _ _ _ _ t refl))

whole_in : (k : ℕ) (s : Progress) (bs : List ℕ) → (prefix_up_to k s bs).whole ≡ true → ((prefix_up_to k s bs).stop ≡ length bs) × (is_ok (checked_from s (prefix_up_to k s bs).numbers) ≡ true)
unfolding prefix_up_to
whole_in zero s bs w =
    (sym (eqb-true (length bs) 0 (and_left (eqb (length bs) 0) (has_ended s.turn) w)), ended_is s (and_right (eqb (length bs) 0) (has_ended s.turn) w))
whole_in (suc k) s bs w =
    by_option (first_number bs)
    (λ z. let o = nothing (suc k) s bs z in
    let y : (eqb (length bs) 0 && has_ended s.turn) ≡ true = sym (ap (λ (t : Prefix). t.whole) o) ∙ w in
    rw o (sym (eqb-true (length bs) 0 (and_left (eqb (length bs) 0) (has_ended s.turn) y)), ended_is s (and_right (eqb (length bs) 0) (has_ended s.turn) y)))
    (λ n e. by_option (judged_number s n.value)
    (λ t. absurd (true≢false (sym w ∙ ap (λ (x : Prefix). x.whole) (one_bad k s bs e t))))
    (λ next t. let o = one_more k s bs e t in
    let r : Prefix = prefix_up_to k next (drop n.count bs) in
    let ih = whole_in k next (drop n.count bs) (sym (ap (λ (x : Prefix). x.whole) o) ∙ w) in
    rw o (omega (arith, ih.0, length-drop n.count bs, (is_number bs (sym e)).inside), ok_on s n.value r.numbers t ∙ ih.1)))

-- the numbers that are read are numbers that can be written
small_in : (k : ℕ) (s : Progress) (bs : List ℕ) → Small (prefix_up_to k s bs).numbers
unfolding prefix_up_to
small_in zero s bs = λ i. omega arith
small_in (suc k) s bs =
    by_option (first_number bs)
    (λ z. rw (nothing (suc k) s bs z) (λ i. omega arith))
    (λ n e. by_option (judged_number s n.value)
    (λ t. rw (one_bad k s bs e t) (λ i. omega arith))
    (λ next t. rw (one_more k s bs e t) (front n.value (prefix_up_to k next (drop n.count bs)).numbers (is_number bs (sym e)).small (small_in k next (drop n.count bs)))))
  where
    front : (n : ℕ) (ns : List ℕ) → n < 4294967296 → Small ns → Small (n ∷ ns)
    front n ns h small zero = h
    front n ns h small (suc i) = small i

-- ---- what is read whole is the text of its numbers, which can be written and keep the rules
pub record IsTextOf (bs ns : List ℕ) : Type 0 where
  pub text : journal_text ns ≡ bs
  pub small : Small ns
  pub kept : is_ok (checked_from journal_start ns) ≡ true

pub written_read : (bs : List ℕ) → Bytes bs → (prefix_from journal_start bs).whole ≡ true → IsTextOf bs (prefix_from journal_start bs).numbers
unfolding prefix_from
written_read bs small w =
    let p = whole_in (length bs) journal_start bs w in
    record {
      text = text_forth (length bs) journal_start bs small ∙ rw p.0 (take-length bs);
      small = small_in (length bs) journal_start bs;
      kept = p.1;
    }

-- two lists with one text are one list, and two journals with the same numbers are the same bytes
pub one_list : (ns ms : List ℕ) → Small ns → Small ms → is_ok (checked_from journal_start ns) ≡ true → is_ok (checked_from journal_start ms) ≡ true → journal_text ns ≡ journal_text ms → ns ≡ ms
one_list ns ms p q v w e =
    ap (λ (t : Prefix). t.numbers) (sym (read_written journal_start ns p v) ∙ ap (prefix_from journal_start) e ∙ read_written journal_start ms q w)

pub one_text : (bs cs : List ℕ) → Bytes bs → Bytes cs → (prefix_from journal_start bs).whole ≡ true → (prefix_from journal_start cs).whole ≡ true
    → (prefix_from journal_start bs).numbers ≡ (prefix_from journal_start cs).numbers → bs ≡ cs
one_text bs cs p q v w e = sym (written_read bs p v).text ∙ ap journal_text e ∙ (written_read cs q w).text

-- ---- the same over the two functions' answers

-- the bytes that the writer says it wrote
abbrev text_in : List ℕ → List ℕ → List ℕ
text_in ns old = take (writer_answer ns (length old)).length (buffer_after ns old)

-- the answer is 0 only where the list keeps the rules and its text fits
zero_only : (r : Result ⊤ ℕ) (size room : ℕ) → (answer_by r size room).refusal ≡ 0 → (r ≡ Ok tt) × (leb size room ≡ true)
zero_only (Ok u) size room e = (
  refl,
  chosen (λ (x : TextWritten). x.refusal ≡ 0 → leb size room ≡ true) (leb size room) (record { refusal = 0; place = 0; length = size }) (record { refusal = 7; place = 0; length = 0 })
      (λ t _. t)
      (λ _ z. absurd (omega arith)) e,
)
zero_only (Err i) size room e = absurd (omega arith)

-- a list that was written, read back into a list that has room for it
module _ (ns old list : List ℕ) (small : Small ns) (wrote : (writer_answer ns (length old)).refusal ≡ 0) (room : length ns ≤ length list) where
  passed : (checked_from journal_start ns ≡ Ok tt) × (leb (length (journal_text ns)) (length old) ≡ true)
  unfolding writer_answer
  passed = zero_only (checked_from journal_start ns) (length (journal_text ns)) (length old) wrote

  pub text_is : text_in ns old ≡ journal_text ns
  unfolding writer_answer buffer_after
  text_is =
      let e : writer_answer ns (length old) ≡ record { refusal = 0; place = 0; length = length (journal_text ns) } = rw passed.0 (sym (yes _ _ _ _ passed.1 refl)) in
      let o : buffer_after ns old ≡ journal_text ns ++ drop (length (journal_text ns)) old = sym (yes _ _ _ _ (ap is_ok passed.0) (yes _ _ _ _ passed.1 refl)) in
      rw (e, o) (take_at (journal_text ns) (drop (length (journal_text ns)) old) (length (journal_text ns)) refl)

  pub back_again : (reader_answer (text_in ns old) (length list) ≡ record { refusal = 0; offset = 0; count = length ns })
      × (list_after (text_in ns old) list ≡ ns ++ drop (length ns) list)
  unfolding reader_answer list_after
  back_again =
      let e = read_written journal_start ns small (ap is_ok passed.0) in
      let fits : ltb (length list) (length ns) ≡ false = le-ltb (length list) (length ns) room in (
        rw (text_is, e) (sym (yes _ _ _ _ refl (no _ _ _ _ fits refl))),
        rw (text_is, e) (sym (yes _ _ _ _ refl (no _ _ _ _ fits refl))),
      )
