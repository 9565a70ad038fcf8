-- Reading number by number, up to the first broken one.
-- Assumes nothing.
use mathlib.Core.Path.{◌≡◌, refl, sym, ◌∙◌, ap}
use mathlib.Core.Bool.{Bool, true, false, true≢false}
use mathlib.Core.List.{List, []}
use Prim.Native.Nat.{ℕ, zero, suc, ◌+◌, ◌-◌, ◌<◌, ◌≤◌}
use native.Mathlib.Nat.{zero-add}
use native.Mathlib.Numerals.{add-one}
use native.Mathlib.Omega.{arith}
use borrow.Author.Tests.{lt-ltb, le-ltb, ne_eqb}
use lib.Dec.{ltb, eqb}
use lib.ListN.{length, set, take, drop, length-drop, length-set}
use lib.Seq.{sets, sets-eq, take-length}
use Rattle.std.specs.Prelude.{◌==◌, Option, None, Some, Result, Ok, Err}
use Rattle.common.specs.Choice.{choose}
use Rattle.common.proofs.Cases.{yes, no}
use Rattle.journal.specs.declared.Progress.{Progress}
use Rattle.journal.specs.declared.Number.{Number}
use Rattle.journal.specs.declared.NumbersRead.{NumbersRead}
use Rattle.journal.specs.declared.Refused.{Refused}
use Rattle.journal.specs.declared.Refused.TheVariants.{Broken}
use Rattle.journal.specs.Rules.{journal_start, judged_number, has_ended}
use Rattle.journal.specs.Reading.{first_number, Prefix, none_read, number_then, prefix_up_to, prefix_from, extent_of, numbers_read, reader_answer, list_filled, list_after}
use Rattle.journal.proofs.Decoded.{is_number}

pub by_test : {X : Type 0} (t : Bool) → (t ≡ true → X) → (t ≡ false → X) → X
by_test true f g = f refl
by_test false f g = g refl

pub by_option : {A X : Type 0} (o : Option A) → (o ≡ None → X) → ((a : A) → o ≡ Some a → X) → X
by_option None f g = f refl
by_option (Some a) f g = g a refl

-- nothing is taken, and it is no whole journal
abbrev pub bad : Prefix
bad = record { numbers = []; stop = 0; whole = false }

pub nothing : (k : ℕ) (s : Progress) (bs : List ℕ) → first_number bs ≡ None → prefix_up_to k s bs ≡ none_read s bs
unfolding prefix_up_to
nothing zero s bs h = refl
nothing (suc k) s bs h = rw h

module _ (k : ℕ) (s : Progress) (bs : List ℕ) {n : Number} (e : first_number bs ≡ Some n) where
  pub one_bad : judged_number s n.value ≡ None → prefix_up_to (suc k) s bs ≡ bad
  unfolding prefix_up_to
  one_bad t = rw (e, t)

  pub one_more : {next : Progress} → judged_number s n.value ≡ Some next → prefix_up_to (suc k) s bs ≡ number_then n (prefix_up_to k next (drop n.count bs))
  unfolding prefix_up_to
  one_more t = rw (e, t)

-- no number is in no bytes
pub none_in : (bs : List ℕ) → length bs ≤ 0 → first_number bs ≡ None
none_in bs h = by_option (first_number bs) (λ z. z) (λ n e. let g = is_number bs (sym e) in absurd (omega (arith, g.some, g.inside)))

-- any allowance that is large enough gives the same
same : (k m : ℕ) (s : Progress) (bs : List ℕ) → length bs ≤ k → length bs ≤ m → prefix_up_to k s bs ≡ prefix_up_to m s bs
same zero m s bs p q =
    let z : first_number bs ≡ None = none_in bs (omega arith) in
    nothing zero s bs z ∙ sym (nothing m s bs z)
same (suc k) zero s bs p q =
    let z : first_number bs ≡ None = none_in bs (omega arith) in
    nothing (suc k) s bs z ∙ sym (nothing zero s bs z)
same (suc k) (suc m) s bs p q =
    by_option (first_number bs)
    (λ z. nothing (suc k) s bs z ∙ sym (nothing (suc m) s bs z))
    (λ n e. let g = is_number bs (sym e) in
    by_option (judged_number s n.value)
    (λ t. one_bad k s bs e t ∙ sym (one_bad m s bs e t))
    (λ next t. one_more k s bs e t
    ∙ ap (number_then n) (same k m next (drop n.count bs) (omega (arith, g.some, length-drop n.count bs)) (omega (arith, g.some, length-drop n.count bs)))
    ∙ sym (one_more m s bs e t)))

module _ (s : Progress) (bs : List ℕ) where
  pub scan_none : first_number bs ≡ None → prefix_from s bs ≡ none_read s bs
  unfolding prefix_from
  scan_none h = nothing (length bs) s bs h

  module _ {n : Number} (e : first_number bs ≡ Some n) where
    again : prefix_from s bs ≡ prefix_up_to (suc (length bs)) s bs
    unfolding prefix_from
    again = same (length bs) (suc (length bs)) s bs (omega arith) (omega arith)

    pub scan_bad : judged_number s n.value ≡ None → prefix_from s bs ≡ bad
    scan_bad t = again ∙ one_bad (length bs) s bs e t

    pub scan_more : {next : Progress} → judged_number s n.value ≡ Some next → prefix_from s bs ≡ number_then n (prefix_from next (drop n.count bs))
    unfolding prefix_from
    scan_more {next} t =
        again ∙ one_more (length bs) s bs e t
        ∙ ap (number_then n) (same (length bs) (length (drop n.count bs)) next (drop n.count bs) (omega (arith, length-drop n.count bs)) (omega arith))

  scan_end : length bs ≤ 0 → prefix_from s bs ≡ record { numbers = []; stop = 0; whole = has_ended s.turn }
  scan_end h =
      let o : eqb (length bs) 0 ≡ true = (let z : length bs ≡ 0 = omega arith in rw z) in
      scan_none (none_in bs h) ∙ rw o

  scan_stops : 0 < length bs → first_number bs ≡ None → prefix_from s bs ≡ bad
  scan_stops h z =
      let o : eqb (length bs) 0 ≡ false = ne_eqb (length bs) 0 (λ y. omega arith) in
      scan_none z ∙ rw o

-- the rest of a list, as a slice to its end
pub rest_of : (n : ℕ) (bs : List ℕ) → take (length bs - n) (drop n bs) ≡ drop n bs
rest_of n bs = rw (← length-drop n bs) (take-length (drop n bs))

pub no_rest : (bs : List ℕ) → true ≡ (length bs == 0) → length bs ≤ 0
no_rest bs h = grind arith

pub some_rest : (bs : List ℕ) → false ≡ (length bs == 0) → 0 < length bs
some_rest bs h = grind arith

-- an answer by the same prefix
extent_same : {w v : Bool} {c d e f : ℕ} → w ≡ v → c ≡ d → e ≡ f → ◌≡◌ {A = Result ℕ Refused} (choose w (Ok c) (Err (Broken e))) (choose v (Ok d) (Err (Broken f)))
extent_same p q r = rw (p, q, r)

-- what is taken of the rest is what is missing to the whole
pub record Scanning (bs : List ℕ) (s : Progress) (rest : List ℕ) (count : ℕ) : Type 0 where
  pub few : count + length rest ≤ length bs
  pub stop : (prefix_from s rest).stop + length bs ≡ (prefix_from journal_start bs).stop + length rest
  pub numbers : count + length (prefix_from s rest).numbers ≡ length (prefix_from journal_start bs).numbers
  pub whole : (prefix_from s rest).whole ≡ (prefix_from journal_start bs).whole

module _ (bs : List ℕ) where
  pub scanning_start : (s : Progress) → s ≡ journal_start → Scanning bs s bs 0
  scanning_start s e = rw e (record { few = omega arith; stop = omega arith; numbers = omega arith; whole = refl })

  module _ {s : Progress} {rest : List ℕ} {count : ℕ} (g : Scanning bs s rest count) where
    -- nothing more is taken
    over : (w : Bool) → prefix_from s rest ≡ record { numbers = []; stop = 0; whole = w } → choose w (Ok count) (Err (Broken (length bs - length rest))) ≡ extent_of bs
    over w o =
        extent_same (sym (ap (λ (t : Prefix). t.whole) o) ∙ g.whole)
        (omega (arith, g.numbers, ap (λ (t : Prefix). length t.numbers) o))
        (omega (arith, g.few, g.stop, ap (λ (t : Prefix). t.stop) o))

    pub scanning_whole : length rest ≤ 0 → has_ended s.turn ≡ true → Ok count ≡ extent_of bs
    scanning_whole h t = yes _ _ _ _ t refl ∙ over (has_ended s.turn) (scan_end s rest h)

    pub scanning_cut : length rest ≤ 0 → has_ended s.turn ≡ false → Err (Broken (length bs)) ≡ extent_of bs
    scanning_cut h t =
        let e : length bs ≡ length bs - length rest = omega arith in
        ap (λ (i : ℕ). Err (Broken i)) e ∙ no _ _ _ _ t refl ∙ over (has_ended s.turn) (scan_end s rest h)

    pub scanning_stop : 0 < length rest → None ≡ first_number rest → Err (Broken (length bs - length rest)) ≡ extent_of bs
    unfolding choose
    scanning_stop h z = over false (scan_stops s rest h (sym z))

    module _ {n : Number} (e : Some n ≡ first_number rest) where
      pub scanning_bad : None ≡ judged_number s n.value → Err (Broken (length bs - length rest)) ≡ extent_of bs
      unfolding choose
      scanning_bad t = over false (scan_bad s rest (sym e) (sym t))

      pub scanning_on : {next : Progress} → Some next ≡ judged_number s n.value → Scanning bs next (drop n.count rest) (count + 1)
      scanning_on t =
          let o = scan_more s rest (sym e) (sym t) in
          let i = is_number rest e in
          record {
            few = omega (arith, g.few, i.some, i.inside, length-drop n.count rest);
            stop = omega (arith, g.stop, i.inside, length-drop n.count rest, ap (λ (t : Prefix). t.stop) o);
            numbers = omega (arith, g.numbers, ap (λ (t : Prefix). length t.numbers) o);
            whole = sym (ap (λ (t : Prefix). t.whole) o) ∙ g.whole;
          }

-- the numbers before the rest are there: setting those of the rest gives the whole list
pub record Filling (bs old : List ℕ) (list : List ℕ) (rest : List ℕ) (i : ℕ) : Type 0 where
  pub state : Progress
  pub all : (prefix_from state rest).whole ≡ true
  pub same : length list ≡ length old
  pub room : i + length (prefix_from state rest).numbers ≤ length list
  pub sofar : sets list i (prefix_from state rest).numbers ≡ sets old 0 (prefix_from journal_start bs).numbers

module _ (bs old : List ℕ) where
  pub filling_start : ((prefix_from journal_start bs).whole ≡ true) × (length (prefix_from journal_start bs).numbers ≤ length old) → Filling bs old old bs 0
  filling_start p = record { state = journal_start; all = p.0; same = refl; room = omega (arith, p.1); sofar = refl }

  module _ {list rest : List ℕ} {i : ℕ} (g : Filling bs old list rest i) where
    not_bad : prefix_from g.state rest ≡ bad → ⊥
    not_bad o = true≢false (sym g.all ∙ ap (λ (t : Prefix). t.whole) o)

    module _ {n : Number} (e : Some n ≡ first_number rest) where
      goes : (next : Progress) × (judged_number g.state n.value ≡ Some next)
      goes = by_option (judged_number g.state n.value) (λ t. absurd (not_bad (scan_bad g.state rest (sym e) t))) (λ next t. (next, t))

      on : prefix_from g.state rest ≡ number_then n (prefix_from goes.0 (drop n.count rest))
      on = scan_more g.state rest (sym e) goes.1

      pub place_fits : i < length list
      place_fits = omega (arith, g.room, ap (λ (t : Prefix). length t.numbers) on)

      pub filling_on : Filling bs old (set list i n.value) (drop n.count rest) (i + 1)
      filling_on =
          record {
            state = goes.0;
            all = sym (ap (λ (t : Prefix). t.whole) on) ∙ g.all;
            same = length-set list i n.value ∙ g.same;
            room = omega (arith, g.room, ap (λ (t : Prefix). length t.numbers) on, length-set list i n.value);
            sofar = rw add-one (ap (λ (t : Prefix). sets list i t.numbers) (sym on) ∙ g.sofar);
          }

    pub filling_end : length (prefix_from journal_start bs).numbers ≤ length old → None ≡ first_number rest → list ≡ list_filled bs old
    filling_end r z =
        ap (λ (t : Prefix). sets list i t.numbers) (sym (scan_none g.state rest (sym z))) ∙ g.sofar
        ∙ sets-eq (prefix_from journal_start bs).numbers old 0 (omega arith) ∙ rw zero-add

-- the whole answer
ok_extent : (w : Bool) (c d e : ℕ) → ◌≡◌ {A = Result ℕ Refused} (Ok c) (choose w (Ok d) (Err (Broken e))) → (w ≡ true) × (c ≡ d)
unfolding choose
ok_extent true c d e p = (refl, grind arith)
ok_extent false c d e p = absurd (grind arith)

err_extent : (w : Bool) (c : Refused) (d e : ℕ) → ◌≡◌ {A = Result ℕ Refused} (Err c) (choose w (Ok d) (Err (Broken e))) → (w ≡ false) × (c ≡ Broken e)
unfolding choose
err_extent true c d e p = absurd (grind arith)
err_extent false c d e p = (refl, grind arith)

module _ (bs old : List ℕ) where
  pub stopped : {e : Refused} → Err e ≡ extent_of bs → (numbers_read (Err e) ≡ reader_answer bs (length old)) × (old ≡ list_after bs old)
  unfolding reader_answer list_after
  stopped {e} p =
      let t = prefix_from journal_start bs in
      let q = err_extent t.whole e (length t.numbers) t.stop p in
      (rw q.1 (no _ _ _ _ q.0 refl), no _ _ _ _ q.0 refl)

  module _ {count : ℕ} (p : Ok count ≡ extent_of bs) where
    counted : ((prefix_from journal_start bs).whole ≡ true) × (count ≡ length (prefix_from journal_start bs).numbers)
    counted = let t = prefix_from journal_start bs in ok_extent t.whole count (length t.numbers) t.stop p

    pub no_room : length old < count → (◌≡◌ {A = NumbersRead} (record { refusal = 7; offset = 0; count = 0 }) (reader_answer bs (length old))) × (old ≡ list_after bs old)
    unfolding reader_answer list_after
    no_room l =
        let t : ltb (length old) (length (prefix_from journal_start bs).numbers) ≡ true = lt-ltb (length old) (length (prefix_from journal_start bs).numbers) (omega (arith, counted.1)) in
        (yes _ _ _ _ counted.0 (yes _ _ _ _ t refl), yes _ _ _ _ counted.0 (yes _ _ _ _ t refl))

    module _ (l : count ≤ length old) where
      pub fillable : ((prefix_from journal_start bs).whole ≡ true) × (length (prefix_from journal_start bs).numbers ≤ length old)
      fillable = (counted.0, omega (arith, counted.1))

      pub read_all : {new : List ℕ} → new ≡ list_filled bs old
          → (◌≡◌ {A = NumbersRead} (record { refusal = 0; offset = 0; count = count }) (reader_answer bs (length old))) × (new ≡ list_after bs old)
      unfolding reader_answer list_after
      read_all e =
          let t : ltb (length old) (length (prefix_from journal_start bs).numbers) ≡ false = le-ltb (length old) (length (prefix_from journal_start bs).numbers) (omega (arith, counted.1)) in
          (rw counted.1 (yes _ _ _ _ counted.0 (no _ _ _ _ t refl)), yes _ _ _ _ counted.0 (no _ _ _ _ t e))
