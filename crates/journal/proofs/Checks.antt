-- A list that is checked number by number.
-- Assumes nothing.
use mathlib.Core.Path.{◌≡◌, refl, sym, ◌∙◌, ap}
use mathlib.Core.Bool.{true, false}
use mathlib.Core.List.{List, [], ◌∷◌}
use Prim.Native.Nat.{ℕ, ◌+◌, ◌<◌, ◌≤◌}
use native.Mathlib.Numerals.{add-one}
use native.Mathlib.Omega.{arith}
use lib.ListN.{length, get_or, drop, drop_of_length-le}
use lib.Seq.{drop-cons}
use Rattle.std.specs.Prelude.{None, Some, Result, Ok, Err, ⊤, is_ok}
use Rattle.common.specs.Choice.{choose}
use Rattle.common.proofs.Cases.{yes, no}
use Rattle.journal.specs.declared.Progress.{Progress}
use Rattle.journal.specs.Rules.{judged_number, journal_start, has_ended, one_later, checked_from}

module _ (s : Progress) (n : ℕ) (ns : List ℕ) where
  pub check_on : {next : Progress} → judged_number s n ≡ Some next → checked_from s (n ∷ ns) ≡ one_later (checked_from next ns)
  unfolding checked_from
  check_on e = rw e

  pub check_no : judged_number s n ≡ None → checked_from s (n ∷ ns) ≡ Err 0
  unfolding checked_from
  check_no e = rw e

pub later_ok : (r : Result ⊤ ℕ) → is_ok (one_later r) ≡ is_ok r
later_ok (Ok u) = refl
later_ok (Err i) = refl

-- a list that keeps the rules goes on with one that does
pub ok_on : (s : Progress) (n : ℕ) (ns : List ℕ) {next : Progress} → judged_number s n ≡ Some next → is_ok (checked_from s (n ∷ ns)) ≡ is_ok (checked_from next ns)
ok_on s n ns {next} e = ap is_ok (check_on s n ns e) ∙ later_ok (checked_from next ns)

-- the check of what stands from the ith number on, as one of the whole list
abbrev pub behind : ℕ → Result ⊤ ℕ → Result ⊤ ℕ
behind i (Ok u) = Ok u
behind i (Err p) = Err (i + p)

behind_none : (r : Result ⊤ ℕ) → behind 0 r ≡ r
behind_none (Ok u) = refl
behind_none (Err p) = ap Err (omega arith)

behind_one : (i : ℕ) (r : Result ⊤ ℕ) → behind i (one_later r) ≡ behind (i + 1) r
behind_one i (Ok u) = refl
behind_one i (Err p) = ap Err (omega arith)

-- the check from here on is what is missing to the whole
pub record Checking (ns : List ℕ) (s : Progress) (i : ℕ) : Type 0 where
  pub within : i ≤ length ns
  pub rest : behind i (checked_from s (drop i ns)) ≡ checked_from journal_start ns

module _ (ns : List ℕ) where
  pub checking_start : (s : Progress) → s ≡ journal_start → Checking ns s 0
  checking_start s e = rw e (record { within = omega arith; rest = behind_none (checked_from journal_start ns) })

  module _ {s : Progress} {i : ℕ} (g : Checking ns s i) where
    ends : length ns ≤ i → behind i (choose (has_ended s.turn) (Ok tt) (Err 0)) ≡ checked_from journal_start ns
    unfolding checked_from
    ends h = let e : drop i ns ≡ [] = drop_of_length-le ns h in rw e at g.rest

    pub checking_whole : length ns ≤ i → has_ended s.turn ≡ true → Ok tt ≡ checked_from journal_start ns
    checking_whole h t = ap (behind i) (yes _ _ _ _ t refl) ∙ ends h

    pub checking_cut : length ns ≤ i → has_ended s.turn ≡ false → Err (length ns) ≡ checked_from journal_start ns
    checking_cut h t =
        let e : length ns ≡ i + 0 = omega (arith, g.within) in ap Err e ∙ ap (behind i) (no _ _ _ _ t refl) ∙ ends h

    module _ (h : i < length ns) where
      here : checked_from s (drop i ns) ≡ checked_from s (get_or ns i 0 ∷ drop (i + 1) ns)
      here = rw (drop-cons ns i 0 h, add-one)

      pub checking_stop : None ≡ judged_number s (get_or ns i 0) → Err i ≡ checked_from journal_start ns
      checking_stop t =
          let e : i ≡ i + 0 = omega arith in
          ap Err e ∙ sym (ap (behind i) (here ∙ check_no s (get_or ns i 0) (drop (i + 1) ns) (sym t))) ∙ g.rest

      pub checking_on : {next : Progress} → Some next ≡ judged_number s (get_or ns i 0) → Checking ns next (i + 1)
      checking_on {next} t =
          record {
            within = omega arith;
            rest =
                sym (behind_one i (checked_from next (drop (i + 1) ns)))
                ∙ sym (ap (behind i) (here ∙ check_on s (get_or ns i 0) (drop (i + 1) ns) (sym t))) ∙ g.rest;
          }
