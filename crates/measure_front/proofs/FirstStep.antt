-- What the first step's proofs cite: which fields of a number leave no fraction in range, and the sentence of `passes`.
-- Assumes nothing.
use mathlib.Core.Path.{◌≡◌, refl, sym, ap, ◌∙◌, subst}
use mathlib.Core.Logic.{◌↔◌, inl, inr}
use mathlib.Core.Bool.{Bool, true, false, not, ◌&&◌, ◌||◌, true≢false}
use Prim.Native.Nat.{ℕ, zero, suc, ◌+◌, ◌-◌, ◌*◌, ◌^◌, ◌≤◌, ◌<◌, zero-le}
use native.Mathlib.Nat.{le_trans, le_of_eq, lt_of_lt_of_le, lt_irrefl, mul-pos, mul_right_comm, mul-le-mul, mul-le-mul_right, le_of_mul-le-mul_right, eq-zero-or-pos, zero-mul}
use native.Mathlib.Omega.{arith}
use borrow.Author.Rules.{rules}
use denote.Enum.Bare.{sameb}
use borrow.Author.Tests.{lt-leb, le-leb, eq-eqb, ne_eqb, leb-true, leb-false, eqb-true, eqb-false}
use lib.Dec.{T, leb, eqb, le→leb, leb→le, lit≤, lit<}
use lib.Pow.{pow_pos, pow_mono}
use lib.Ieee.{Float, nan, inf, fin, binary32, up, down, of_fields, to_bits, of_int}
use lib.Ieee.Exact.{HasValue}
use lib.Ieee.Fits.{down_pos}
use Rattle.measure.proofs.Laws.{units, highest, fields_value, counts_finite, same_test}
use Rattle.measure.specs.Exact.{counts, in_range}
use Rattle.measure.specs.Readings.{limit_of, good_of, held_of, measured_of}
use Rattle.measure_front.specs.Fronts.{handed, reading_of, EveryFractionMissing, has_number, top_exponent}
use Rattle.measure.specs.declared.Channel.{Channel}
use Rattle.measure.specs.declared.Channel.TheVariants.{Voltage, Current1A, Current5A}
use Rattle.measure.specs.declared.Measured.{Measured}
use Rattle.measure.specs.declared.Measured.TheVariants as measured
use Rattle.measure_front.specs.contracts.Quality.{the_type}
use Rattle.measure_front.specs.declared.Front.{Front}
use Rattle.measure_front.specs.declared.Quality.{Quality}
use Rattle.measure_front.specs.declared.Quality.TheVariants as quality

-- ---- the range of a number by its fields, in units of 2 ^ -149

-- with the highest exponent none counts
none_counted : (s : Bool) (x t : ℕ) → x ≡ 255 → counts (of_fields binary32 s x t) ≡ false
none_counted s x t e = go (counts (of_fields binary32 s x t)) refl
  where
    go : (b : Bool) → counts (of_fields binary32 s x t) ≡ b → b ≡ false
    go true is = absurd (highest s x t e (counts_finite (of_fields binary32 s x t) (subst T (sym is) tt)))
    go false is = refl

-- the range of a number n / d that is a / p
module _ (n d a p : ℕ) (D : 0 < d) (P : 0 < p) (same : n * p ≡ a * d) where
  zero_same : eqb n 0 ≡ eqb a 0
  zero_same = elim (eq-zero-or-pos n) [
    | inl z ↦ elim (eq-zero-or-pos a) [
      | inl y ↦ rw (eq-eqb n 0 z, eq-eqb a 0 y)
      | inr l ↦ absurd (not_zero (a * d) (mul-pos l D) (sym same ∙ ap (λ (i : ℕ). i * p) z ∙ zero-mul p))
    ]
    | inr l ↦ elim (eq-zero-or-pos a) [
      | inl y ↦ absurd (not_zero (n * p) (mul-pos l P) (same ∙ ap (λ (i : ℕ). i * d) y ∙ zero-mul d))
      | inr k ↦ rw (ne_eqb n 0 (λ q. omega arith), ne_eqb a 0 (λ q. omega arith))
    ]
  ]
    where
      not_zero : (i : ℕ) → 0 < i → i ≡ 0 → ⊥
      not_zero i h e = omega arith

  limit_same : (l : ℕ) → leb n (l * d) ≡ leb a (l * p)
  limit_same l =
      same_test (leb n (l * d)) (leb a (l * p))
      (λ t. le→leb a (l * p) (le_of_mul-le-mul_right (le_trans (le_of_eq (sym same)) (le_trans (mul-le-mul_right p (leb→le n (l * d) t)) (le_of_eq (mul_right_comm l d p)))) D))
      (λ t. le→leb n (l * d) (le_of_mul-le-mul_right (le_trans (le_of_eq same) (le_trans (mul-le-mul_right d (leb→le a (l * p) t)) (le_of_eq (mul_right_comm l p d)))) P))

range_by_value : (l : ℕ) (x : Float) (s : Bool) (a : ℕ) → HasValue x s a (2 ^ 149) → in_range l x ≡ ((not s || eqb a 0) && leb a (l * 2 ^ 149))
range_by_value l nan s a v = absurd v
range_by_value l (inf t) s a v = absurd v
range_by_value l (fin true m e) s a v =
    rw (← v.0, zero_same (m * up e) (down e) a (2 ^ 149) (down_pos e) (pow_pos 149) v.1, limit_same (m * up e) (down e) a (2 ^ 149) (down_pos e) (pow_pos 149) v.1 l)
range_by_value l (fin false m e) s a v = rw (← v.0, limit_same (m * up e) (down e) a (2 ^ 149) (down_pos e) (pow_pos 149) v.1 l)

-- ---- the exponent p in which a limit l lies

record Lies (l p : ℕ) : Type 0 where
  reached : 2 ^ 23 * 2 ^ (p - 1) ≤ l * 2 ^ 149
  passed : l * 2 ^ 149 < 2 ^ 23 * 2 ^ p
  finite : p < 255

module _ (l p : ℕ) (lies : Lies l p) where
  -- what the code tests of sign and exponent
  abbrev lets : Bool → ℕ → Bool
  lets true x = eqb x 0
  lets false x = leb x p

  above : (x t : ℕ) → p < x → leb (units x t) (l * 2 ^ 149) ≡ false
  above zero t h = absurd (omega arith)
  above (suc k) t h =
      lt-leb (units (suc k) t) (l * 2 ^ 149)
      (lt_of_lt_of_le lies.passed (mul-le-mul {n₁ = 2 ^ 23} {m₁ = 2 ^ p} {n₂ = 0x80_0000 + t} (omega arith) (pow_mono {i = p} {j = k} (omega arith))))

  not_zero : (x t : ℕ) → (x ≡ 0 → ⊥) → eqb (units x t) 0 ≡ false
  not_zero zero t h = absurd (h refl)
  not_zero (suc k) t h =
      let some : 0 < units (suc k) t = mul-pos {m = 0x80_0000 + t} (omega arith) (pow_pos k) in
      ne_eqb (units (suc k) t) 0 (λ e. lt_irrefl 0 (subst (λ (i : ℕ). 0 < i) e some))

  -- no fraction counts with a sign and an exponent that the code does not let pass
  refused : (s : Bool) (x t : ℕ) → lets s x ≡ false → in_range l (of_fields binary32 s x t) ≡ false
  refused s x t h = by_top (eqb x 255) refl
    where
      by_sign : (s : Bool) → lets s x ≡ false → ((not s || eqb (units x t) 0) && leb (units x t) (l * 2 ^ 149)) ≡ false
      by_sign true h = rw (not_zero x t (eqb-false x 0 h))
      by_sign false h = above x t (leb-false x p h)

      by_top : (b : Bool) → eqb x 255 ≡ b → in_range l (of_fields binary32 s x t) ≡ false
      by_top true e = rw (none_counted s x t (eqb-true x 255 e))
      by_top false e = range_by_value l (of_fields binary32 s x t) s (units x t) (fields_value s x t (eqb-false x 255 e)) ∙ by_sign s h

  -- and with one that it does, the fraction 0 counts
  let_pass : (s : Bool) (x : ℕ) → lets s x ≡ true → in_range l (of_fields binary32 s x 0) ≡ true
  let_pass s x h =
      range_by_value l (of_fields binary32 s x 0) s (units x 0) (fields_value s x 0 (λ e. lt_irrefl x (omega (arith, e, in_top s h, lies.finite))))
      ∙ rw (le-leb (units x 0) (l * 2 ^ 149) (reaches x (in_top s h))) (by_sign s h)
    where
      in_top : (s : Bool) → lets s x ≡ true → x ≤ p
      in_top true h = le_trans (le_of_eq (eqb-true x 0 h)) zero-le
      in_top false h = leb-true x p h

      reaches : (x : ℕ) → x ≤ p → units x 0 ≤ l * 2 ^ 149
      reaches zero g = zero-le
      reaches (suc k) g = le_trans (mul-le-mul {n₁ = 2 ^ 23} {m₁ = 2 ^ k} {n₂ = 2 ^ 23} (lit≤ tt) (pow_mono {i = k} {j = p - 1} (omega arith))) lies.reached

      by_sign : (s : Bool) → lets s x ≡ true → ((not s || eqb (units x 0) 0) && true) ≡ true
      by_sign true h = rw (eqb-true x 0 h)
      by_sign false h = refl

-- ---- the first step's sentence

-- the limits of the channels lie in the exponents that the code has
top_is : (c : Channel) → Lies (limit_of c) (top_exponent (limit_of c))
unfolding top_exponent to_bits of_int
top_is Voltage = record { reached = lit≤ tt; passed = lit< tt; finite = lit< tt }
top_is Current1A = record { reached = lit≤ tt; passed = lit< tt; finite = lit< tt }
top_is Current5A = record { reached = lit≤ tt; passed = lit< tt; finite = lit< tt }

unfoldable pub is_missing_lem : Measured → Bool
is_missing_lem (measured.Good n) = false
is_missing_lem (measured.Held n) = false
is_missing_lem measured.Missing = true

-- a number handed over with a quality is missing exactly where the quality has none or it is out of range
module _ (l : ℕ) (x : Float) where
  missing_handed : (q : Quality) → (has_number q && in_range l x) ≡ false → measured_of l (handed q x) ≡ measured.Missing
  unfolding measured_of good_of held_of has_number
  missing_handed quality.Good e = rw e
  missing_handed quality.Held e = rw e
  missing_handed quality.Invalid e = refl

  counts_handed : (q : Quality) → (has_number q && in_range l x) ≡ true → measured_of l (handed q x) ≡ measured.Missing → ⊥
  unfolding measured_of good_of held_of has_number is_missing_lem
  counts_handed quality.Good e m = absurd (true≢false (sym (ap is_missing_lem m) ∙ rw e))
  counts_handed quality.Held e m = absurd (true≢false (sym (ap is_missing_lem m) ∙ rw e))
  counts_handed quality.Invalid e m = absurd (true≢false (sym e))

-- what follows of the second test follows of both
kept : (v a b c : Bool) → (b ≡ v → c ≡ v) → (a && b) ≡ v → (a && c) ≡ v
kept v true b c f e = f e
kept v false b c f e = e

-- a quality that is not Invalid has a number
numbered : (q : Quality) → has_number q ≡ not (sameb the_type q quality.Invalid)
unfolding has_number
numbered quality.Good = refl
numbered quality.Held = refl
numbered quality.Invalid = refl

-- the code's tests
abbrev tested : Channel → Front → Bool
tested c f = has_number f.quality && lets (limit_of c) (top_exponent (limit_of c)) (top_is c) f.minus f.exponent

module _ (c : Channel) (f : Front) (r : Bool) where
  none_counts : tested c f ≡ false → (t : ℕ) → measured_of (limit_of c) (reading_of f t) ≡ measured.Missing
  unfolding reading_of
  none_counts e t = missing_handed (limit_of c) (of_fields binary32 f.minus f.exponent t) f.quality (kept false (has_number f.quality) _ _ (refused _ _ (top_is c) f.minus f.exponent t) e)

  zero_counts : tested c f ≡ true → measured_of (limit_of c) (reading_of f 0) ≡ measured.Missing → ⊥
  unfolding reading_of
  zero_counts e = counts_handed (limit_of c) (of_fields binary32 f.minus f.exponent 0) f.quality (kept true (has_number f.quality) _ _ (let_pass _ _ (top_is c) f.minus f.exponent) e)

  sentence : r ≡ tested c f → (r ≡ false) ↔ EveryFractionMissing (limit_of c) f
  unfolding EveryFractionMissing
  sentence is = (λ no. λ t small. none_counts (sym is ∙ no) t, λ all. go r refl all)
    where
      go : (b : Bool) → r ≡ b → EveryFractionMissing (limit_of c) f → r ≡ false
      go false e all = e
      go true e all = absurd (zero_counts (sym is ∙ e) (all 0 (lit< tt)))

  -- as the code comes to its answer
  module _ (invalid : Bool) (kind : invalid ≡ sameb the_type f.quality quality.Invalid) where
    number : has_number f.quality ≡ not invalid
    number = numbered f.quality ∙ ap not (sym kind)

    pub by_quality : invalid ≡ true → r ≡ false → (r ≡ false) ↔ EveryFractionMissing (limit_of c) f
    by_quality none is = sentence (is ∙ rw (number, none))

    pub by_minus : invalid ≡ false → f.minus ≡ true → r ≡ eqb f.exponent 0 → (r ≡ false) ↔ EveryFractionMissing (limit_of c) f
    by_minus some minus is = sentence (is ∙ rw (number, some, minus))

    pub by_exponent : (p : ℕ) → invalid ≡ false → f.minus ≡ false → p ≡ top_exponent (limit_of c) → r ≡ leb f.exponent p → (r ≡ false) ↔ EveryFractionMissing (limit_of c) f
    by_exponent p some plus top is = sentence (is ∙ rw (number, some, plus) (rw top))

pub ruleset first_step = (by_quality, by_minus, by_exponent, rules)

-- ---- the exponents of the limits

module _ (r : ℕ) (c : Channel) where
  pub top_voltage : c ≡ Voltage → r ≡ 134 → r ≡ top_exponent (limit_of c)
  unfolding top_exponent to_bits of_int
  top_voltage e is = rw e is

  pub top_1a : c ≡ Current1A → r ≡ 132 → r ≡ top_exponent (limit_of c)
  unfolding top_exponent to_bits of_int
  top_1a e is = rw e is

  pub top_5a : c ≡ Current5A → r ≡ 134 → r ≡ top_exponent (limit_of c)
  unfolding top_exponent to_bits of_int
  top_5a e is = rw e is

pub ruleset tops = (top_voltage, top_1a, top_5a, rules)
