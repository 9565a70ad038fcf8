-- What is answered, case by case, over plain values.
-- Assumes nothing.
use mathlib.Core.Path.{◌≡◌, refl, sym, ◌∙◌, ap}
use mathlib.Core.Bool.{Bool, true, false, not, ◌&&◌}
use mathlib.Core.List.{List}
use Prim.Native.Nat.{ℕ, ◌<◌, ◌≤◌}
use lib.Dec.{leb}
use lib.ListN.{length}
use borrow.Author.Tests.{lt-ltb, le-ltb, le-leb, lt-leb, eq-eqb, ne_eqb}
use Rattle.common.specs.Choice.{choose}
use Rattle.common.proofs.Cases.{yes, no}
use Rattle.slots.specs.Slots.{slot, n_pos, n_r, n_l, slots}
use Rattle.sheet_ranges.specs.Ranges.{first_out_of_range}
use Rattle.std.specs.Prelude.{Result, Ok, Err}
use Rattle.sheet.specs.Sheet.{is_taken, wrong_length, out_of_range, ends_crossed, pos_outside, counted_tap, judge_of, passes_of, answer_of, zeros, sheet_with, sheet_of, reply_of, returned_of}
use Rattle.sheet.specs.declared.Refusal.{Refusal}
use Rattle.sheet.specs.declared.Refusal.TheVariants.{WrongLength, OutOfRange, TapOrder, CountedTap}

-- whether N_pos is within N_L–N_R
abbrev pub within : List ℕ → Bool
within s = leb (slot s n_l) (slot s n_pos) && leb (slot s n_pos) (slot s n_r)

-- a list of the right length
module _ (s : List ℕ) {n : ℕ} (p : n ≡ first_out_of_range s) where
  pub slot_refused : n < slots → Err (OutOfRange n) ≡ judge_of s
  unfolding judge_of
  slot_refused h = rw (← p) (yes _ _ _ _ (lt-ltb _ _ h) refl)

  pub ends_refused : slots ≤ n → slot s n_r ≤ slot s n_l → Err (TapOrder 49) ≡ judge_of s
  unfolding judge_of
  ends_refused h c = rw (← p) (no _ _ _ _ (le-ltb _ _ h) (yes _ _ _ _ (le-leb _ _ c) refl))

  pub pos_refused : slots ≤ n → slot s n_l < slot s n_r → within s ≡ false → Err (TapOrder 48) ≡ judge_of s
  unfolding judge_of
  pos_refused h c e = rw (← p) (no _ _ _ _ (le-ltb _ _ h) (no _ _ _ _ (lt-leb _ _ c) (yes _ _ _ _ (ap not e) refl)))

  module _ (h : slots ≤ n) (c : slot s n_l < slot s n_r) (e : within s ≡ true) where
    pub count_refused : counted_tap s ≡ true → Err CountedTap ≡ judge_of s
    unfolding judge_of
    count_refused d = rw (← p) (no _ _ _ _ (le-ltb _ _ h) (no _ _ _ _ (lt-leb _ _ c) (no _ _ _ _ (ap not e) (yes _ _ _ _ d refl))))

    pub not_refused : counted_tap s ≡ false → Ok tt ≡ judge_of s
    unfolding judge_of
    not_refused d = rw (← p) (no _ _ _ _ (le-ltb _ _ h) (no _ _ _ _ (lt-leb _ _ c) (no _ _ _ _ (ap not e) (no _ _ _ _ d refl))))

pub passes_told : (s : List ℕ) {a : Result (Unit {0}) Refusal} {t : Bool} → a ≡ judge_of s → t ≡ is_taken a → t ≡ passes_of s
unfolding passes_of
passes_told s p e = e ∙ ap is_taken p

-- what `search` and `grind` follow the judging by
pub ruleset judging = (slot_refused, ends_refused, pos_refused, count_refused, not_refused, passes_told)

-- a list of any length
module _ (s : List ℕ) where
  pub answer_wrong : (length s ≡ slots → ⊥) → answer_of s ≡ Err WrongLength
  unfolding answer_of
  answer_wrong h = sym (yes _ _ _ _ (ap not (ne_eqb _ _ h)) refl)

  pub answer_right : length s ≡ slots → answer_of s ≡ judge_of s
  unfolding answer_of
  answer_right h = sym (no _ _ _ _ (ap not (eq-eqb _ _ h)) refl)

  pub wrong_length_lem : (length s ≡ slots → ⊥) → Err WrongLength ≡ sheet_of s
  unfolding sheet_of
  wrong_length_lem h = sym (ap (λ (a : Result (Unit {0}) Refusal). sheet_with a s) (answer_wrong h))

  -- the list, or a copy of it, is judged
  module _ {ys : List ℕ} {a : Result (Unit {0}) Refusal} (h : length s ≡ slots) (p : ys ≡ s) (q : a ≡ judge_of ys) where
    judged : sheet_with a ys ≡ sheet_of s
    unfolding sheet_of
    judged = let z : answer_of s ≡ judge_of s = answer_right h in cc

    pub right_refused : {e : Refusal} {r : Result (List ℕ) Refusal} → a ≡ Err e → r ≡ Err e → r ≡ sheet_of s
    right_refused f g = g ∙ ap (λ (b : Result (Unit {0}) Refusal). sheet_with b ys) (sym f) ∙ judged

    pub right_taken : {u : Unit {0}} → a ≡ Ok u → Ok ys ≡ sheet_of s
    right_taken f = ap (λ (b : Result (Unit {0}) Refusal). sheet_with b ys) (sym f) ∙ judged

-- the sheet says what the paper's table returns
by_cause : (a b c d e : Bool) (n : ℕ) (s : List ℕ)
    → reply_of (sheet_with (choose a (Err WrongLength) (choose b (Err (OutOfRange n)) (choose c (Err (TapOrder 49)) (choose d (Err (TapOrder 48)) (choose e (Err CountedTap) (Ok tt)))))) s)
    ≡ choose a (record { number = 1; slot = 0; settings = zeros }) (choose b (record { number = 2; slot = n; settings = zeros }) (choose c (record { number = 3; slot = 49; settings = zeros }) (choose d (record { number = 3; slot = 48; settings = zeros }) (choose e (record { number = 5; slot = 63; settings = zeros }) (record { number = 0; slot = 0; settings = s })))))
unfolding choose
by_cause true b c d e n s = refl
by_cause false true c d e n s = refl
by_cause false false true d e n s = refl
by_cause false false false true e n s = refl
by_cause false false false false true n s = refl
by_cause false false false false false n s = refl

pub returned : (s : List ℕ) → reply_of (sheet_of s) ≡ returned_of s
unfolding sheet_of answer_of judge_of returned_of
returned s = by_cause (wrong_length s) (out_of_range s) (ends_crossed s) (pos_outside s) (counted_tap s) (first_out_of_range s) s
