-- Text that is written piece by piece, and how long it can be.
-- Assumes nothing.
use mathlib.Core.Path.{◌≡◌, refl, sym, ◌∙◌, ap}
use mathlib.Core.Bool.{true, false}
use mathlib.Core.List.{List, [], ◌∷◌, ◌++◌, append_assoc}
use Prim.Native.Nat.{ℕ, zero, suc, ◌+◌, ◌-◌, ◌*◌, ◌/◌, ◌%◌, ◌^◌, ◌<◌, ◌≤◌}
use native.Mathlib.Nat.{pow-suc}
use native.Mathlib.Numerals.{add-one}
use native.Mathlib.Omega.{arith}
use borrow.Author.Tests.{lt-ltb, le-ltb, le-leb, lt-leb}
use lib.Dec.{ltb, leb}
use lib.ListN.{length, get_or, drop, length-append, drop_of_length-le}
use lib.Seq.{sets, sets-eq, drop-cons}
use Rattle.common.specs.Choice.{choose}
use Rattle.common.specs.Written.{Written}
use Rattle.common.proofs.Cases.{yes, no, chosen}
use Rattle.common.proofs.Written.{sets-append, both_written, written_length}
use Rattle.recording_lines.specs.Lines.{most_digits, widest, digits_of, decimal_of, mark_of, line_of, written_of, end_of}

-- what stands after a number
module _ (ns : List ℕ) (i : ℕ) where
  pub mark_blank : i + 1 < length ns → 32 ≡ mark_of (drop (i + 1) ns)
  mark_blank h = rw (drop-cons ns (i + 1) 0 h)

  pub mark_end : length ns ≤ i + 1 → 10 ≡ mark_of (drop (i + 1) ns)
  mark_end h = rw (drop_of_length-le ns h)

pub ruleset marks = (mark_blank, mark_end)

-- the digits of a number that has at most k + 1 of them are the same with more allowed
enough : (k n : ℕ) → n < 10 ^ suc k → digits_of (suc (suc k)) n ≡ digits_of (suc k) n
unfolding digits_of
enough zero n h =
    let p : ltb n 10 ≡ true = lt-ltb n 10 h in
    sym (yes _ _ _ _ p refl) ∙ yes _ _ _ _ p refl
enough (suc k) n h =
    let q : n / 10 < 10 ^ suc k = omega (arith, pow-suc 10 (suc k)) in
    ap (λ (l : List ℕ). choose (ltb n 10) ((48 + n) ∷ []) (l ++ ((48 + n % 10) ∷ []))) (enough k (n / 10) q)

short : (n : ℕ) → n < 10 → decimal_of n ≡ (48 + n) ∷ []
unfolding decimal_of digits_of
short n h = sym (yes _ _ _ _ (lt-ltb n 10 h) refl)

last_digit : (n : ℕ) → 10 ≤ n → decimal_of n ≡ digits_of 9 (n / 10) ++ ((48 + n % 10) ∷ [])
unfolding decimal_of digits_of
last_digit n h = sym (no _ _ _ _ (le-ltb n 10 h) refl)

long : (n : ℕ) → 10 ≤ n → n < 4294967296 → decimal_of n ≡ decimal_of (n / 10) ++ ((48 + n % 10) ∷ [])
unfolding decimal_of
long n h l = last_digit n h ∙ ap (λ (d : List ℕ). d ++ ((48 + n % 10) ∷ [])) (sym (enough 8 (n / 10) (omega arith)))

at_most : (k n : ℕ) → length (digits_of k n) ≤ k
unfolding digits_of
at_most zero n = omega arith
at_most (suc k) n =
    chosen (λ (l : List ℕ). length l ≤ suc k) (ltb n 10) ((48 + n) ∷ []) (digits_of k (n / 10) ++ ((48 + n % 10) ∷ []))
    (λ _. omega arith)
    (λ _. simp length-append (omega (arith, at_most k (n / 10))))

pub most_digits_lem : (n : ℕ) → length (decimal_of n) ≤ most_digits
unfolding decimal_of
most_digits_lem n = at_most most_digits n

-- a number's digits: the last one, and before it those of a tenth of the number
module _ {old new : List ℕ} {at r n : ℕ} where
  pub one_digit : n < 10 → Written old at ((48 + n) ∷ []) new r → Written old at (decimal_of n) new r
  one_digit h p = rw (short n h) p

  pub more_digits : {mid : List ℕ} {e : ℕ} → 10 ≤ n → n < 4294967296 → Written old at (decimal_of (n / 10)) mid e → Written mid e ((48 + n % 10) ∷ []) new r → Written old at (decimal_of n) new r
  more_digits h l p q = rw (long n h l) (both_written p q)

-- there is room for them
module _ (n : ℕ) (h : 10 ≤ n) (l : n < 4294967296) where
  longer : length (decimal_of n) ≡ length (decimal_of (n / 10)) + 1
  longer = ap length (long n h l) ∙ length-append (decimal_of (n / 10)) ((48 + n % 10) ∷ [])

  pub fewer_fit : (at m : ℕ) → at + length (decimal_of n) ≤ m → at + length (decimal_of (n / 10)) ≤ m
  fewer_fit at m room = omega (arith, longer)

  pub last_fits : {old mid : List ℕ} {at e : ℕ} → at + length (decimal_of n) ≤ length old → Written old at (decimal_of (n / 10)) mid e → e < length mid
  last_fits room p = omega (arith, longer, p.past, written_length p)

pub one_fits : (n : ℕ) {at m : ℕ} → n < 10 → at + length (decimal_of n) ≤ m → at < m
one_fits n h room = omega (arith, ap length (short n h))

-- a line's numbers before the ith are written: writing the rest gives the line, and there is room for it
pub record Going (ns old : List ℕ) (at : ℕ) (out : List ℕ) (end i : ℕ) : Type 0 where
  pub within : i ≤ length ns
  pub room : end + widest * (length ns - i) ≤ length out
  pub same : length out ≡ length old
  pub bytes : sets out end (line_of (drop i ns)) ≡ sets old at (line_of ns)
  pub past : end + length (line_of (drop i ns)) ≡ at + length (line_of ns)

module _ (ns old : List ℕ) (at : ℕ) where
  pub going_start : at + widest * length ns ≤ length old → Going ns old at old at 0
  going_start h = record { within = omega arith; room = omega arith; same = refl; bytes = refl; past = refl }

  module _ {out : List ℕ} {end i : ℕ} (g : Going ns old at out end i) where
    pub number_fits : i < length ns → (n : ℕ) → end + length (decimal_of n) ≤ length out
    number_fits h n = omega (arith, g.room, most_digits_lem n)

    pub mark_fits : (n : ℕ) {mid : List ℕ} {e : ℕ} → i < length ns → Written out end (decimal_of n) mid e → e < length mid
    mark_fits n h p = omega (arith, g.room, most_digits_lem n, p.past, written_length p)

    module _ {mid new : List ℕ} {e r m : ℕ} (h : i < length ns) (p : Written out end (decimal_of (get_or ns i 0)) mid e) (q : Written mid e (m ∷ []) new r) (o : m ≡ mark_of (drop (i + 1) ns)) where
      rest : List ℕ
      rest = line_of (drop (i + 1) ns)

      here : line_of (drop i ns) ≡ (decimal_of (get_or ns i 0) ++ (m ∷ [])) ++ rest
      unfolding rest line_of
      here = rw (drop-cons ns i 0 h, o, add-one, append_assoc)

      both : Written out end (decimal_of (get_or ns i 0) ++ (m ∷ [])) new r
      both = both_written p q

      pub going_on : Going ns old at new r (i + 1)
      unfolding rest
      going_on =
          record {
            within = omega arith;
            room = omega (arith, g.room, most_digits_lem (get_or ns i 0), p.past, q.past, written_length p, written_length q);
            same = written_length q ∙ written_length p ∙ g.same;
            bytes = rw (both.bytes, both.past) (sym (sets-append out end (decimal_of (get_or ns i 0) ++ (m ∷ [])) rest) ∙ ap (sets out end) (sym here) ∙ g.bytes);
            past = rw both.past (omega (arith, g.past, ap length here, length-append (decimal_of (get_or ns i 0) ++ (m ∷ [])) rest));
          }

    pub going_end : length ns ≤ i → Written old at (line_of ns) out end
    unfolding line_of
    going_end h =
        let e : drop i ns ≡ [] = drop_of_length-le ns h in
        record { bytes = rw e at g.bytes; past = omega (arith, rw e at g.past) }

-- a line is at most so many bytes to a number
line_length : (ns : List ℕ) → length (line_of ns) ≤ widest * length ns
unfolding line_of
line_length [] = omega arith
line_length (n ∷ ns) = simp length-append (omega (arith, most_digits_lem n, line_length ns))

module _ (ns out : List ℕ) (at : ℕ) where
  no_room : length out < at + widest * length ns → leb (at + widest * length ns) (length out) ≡ false
  no_room h = lt-leb (at + widest * length ns) (length out) h

  pub unwritten : length out < at + widest * length ns → (out ≡ written_of ns out at) × ((at ≡ end_of ns out at) × (at ≤ length out → at ≤ length out))
  unfolding written_of end_of
  unwritten h = (no _ _ _ _ (no_room h) refl, (no _ _ _ _ (no_room h) refl, λ l. l))

  -- there is room for the line, and it is written
  module _ {new : List ℕ} {r : ℕ} (l : at ≤ length out) (h : length ns ≤ (length out - at) / widest) (p : Written out at (line_of ns) new r) where
    room : leb (at + widest * length ns) (length out) ≡ true
    room = le-leb (at + widest * length ns) (length out) (omega arith)

    pub line_written : new ≡ written_of ns out at
    unfolding written_of
    line_written = yes _ _ _ _ room (p.bytes ∙ sets-eq (line_of ns) out at (omega (arith, line_length ns)))

    pub line_end : r ≡ end_of ns out at
    unfolding end_of
    line_end = yes _ _ _ _ room p.past

    pub line_within : at ≤ length out → r ≤ length new
    line_within _ = omega (arith, line_length ns, p.past, written_length p)
