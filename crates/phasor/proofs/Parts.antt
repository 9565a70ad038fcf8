-- A part in two steps (02, ticket 4): a reading's first step, with the sign taken off, is a part's; and what its magnitude is converted to.
-- Assumes nothing.
use mathlib.Core.Path.{◌≡◌, refl, sym, ap, ◌∙◌, subst}
use mathlib.Core.Logic.{◌↔◌}
use mathlib.Core.Bool.{Bool, true, false, not, cond, true≢false}
use Prim.Native.Nat.{ℕ, zero, suc, ◌+◌, ◌*◌, ◌/◌, ◌%◌}
use native.Mathlib.Nat.{mod-lt}
use native.Mathlib.Omega.{arith}
use borrow.Author.Rules.{rules}
use Rattle.std.specs.Prelude.{Option, None, Some}
use Rattle.std.proofs.lemmas.Option.{none-some}
use lib.Dec.{T, leb, eqb, lit<}
use lib.IntN.{ℤ}
use lib.Ieee.{Float, nan, inf, fin, binary32, up, down, odd, of_fields, to_bits, fits, neg}
use Rattle.measure_front.proofs.FirstStep.{is_missing_lem}
use Rattle.measure_front.proofs.Fronts.{minus_nan, minus_inf, minus_fin}
use Rattle.measure.specs.Exact.{in_range, thousandths}
use Rattle.measure.specs.Readings.{limit_of, if_in_range, good_of, measured_of, converted_of, number_of}
use Rattle.measure.specs.Fields.{fractions, minus_of, exponent_of, number_fraction}
use Rattle.measure_front.specs.Judging.{Judges, JudgedBy}
use Rattle.measure_front.specs.Fronts.{handed, reading_of, EveryFractionMissing, number_front, front_of, fraction_of}
use Rattle.measure.specs.declared.Channel.{Channel}
use Rattle.measure.specs.declared.Measured.TheVariants as measured
use Rattle.measure.specs.declared.Reading.TheVariants.{Good}
use Rattle.measure_front.specs.declared.Front.{Front}
use Rattle.measure_front.specs.declared.Passed.{Passed}
use Rattle.measure_front.specs.declared.Quality.{Quality}
use Rattle.measure_front.specs.declared.Quality.TheVariants as quality
use Rattle.phasor.specs.Pairs.{part_in_range, with_sign, minus, signed_thousandths, part_of}
use Rattle.phasor.specs.Parts.{EveryFractionOut, PartJudges, magnitude_of, signed_of}

-- ---- the first step

odd_range : (l d : ℕ) (s : Bool) (q k p : ℕ) → part_in_range l (odd d s q k p) ≡ in_range l (odd d false q k p)
unfolding odd
odd_range l d s zero k p = refl
odd_range l d s (suc q) k p = refl

-- a part is in range if its magnitude, as a reading, is
magnitude_range : (l : ℕ) (s : Bool) (x t : ℕ) → part_in_range l (of_fields binary32 s x t) ≡ in_range l (of_fields binary32 false x t)
unfolding of_fields
magnitude_range l s zero t = odd_range l 24 s t 0 149
magnitude_range l s (suc x) t = go (eqb (suc x) 255) (eqb t 0)
  where
    number : Bool → Float
    number s = odd 24 s (0x80_0000 + t) x 149

    go : (a b : Bool) → part_in_range l (cond a (cond b (inf s) nan) (number s)) ≡ in_range l (cond a (cond b (inf false) nan) (number false))
    go true true = refl
    go true false = refl
    go false b = odd_range l 24 s (0x80_0000 + t) x 149

missing_out : (a b : Bool) (n : ℕ) (z : ℤ) → b ≡ a → (good_of (if_in_range a n) ≡ measured.Missing) ↔ (if_in_range b z ≡ None)
unfolding good_of is_missing_lem
missing_out true true n z e = (λ h. absurd (true≢false (sym (ap is_missing_lem h))), λ h. absurd (none-some z (sym h)))
missing_out false false n z e = (λ h. refl, λ h. refl)
missing_out true false n z e = absurd (true≢false (sym e))
missing_out false true n z e = absurd (true≢false e)

same_fractions : (limit : ℕ) (s : Bool) (x : ℕ) → EveryFractionMissing limit (record { quality = quality.Good; minus = false; exponent = x }) ↔ EveryFractionOut limit s x
unfolding EveryFractionMissing EveryFractionOut reading_of measured_of part_of
same_fractions limit s x = (λ all. λ t small. (same t).0 (all t small), λ all. λ t small. (same t).1 (all t small))
  where
    same : (t : ℕ) → (measured_of limit (Good (of_fields binary32 false x t)) ≡ measured.Missing) ↔ (part_of limit (of_fields binary32 s x t) ≡ None)
    same t =
        missing_out (in_range limit (of_fields binary32 false x t)) (part_in_range limit (of_fields binary32 s x t)) (thousandths (of_fields binary32 false x t)) (signed_thousandths (of_fields binary32 s x t))
        (magnitude_range limit s x t)

-- the first step's answer for a front without sign is a part's
by_answer : (c : Channel) (x : ℕ) (j : Option Passed) → Judges c (record { quality = quality.Good; minus = false; exponent = x }) j → PartJudges c x j
unfolding Judges PartJudges
by_answer c x None h = λ s. (same_fractions (limit_of c) s x).0 h
by_answer c x (Some p) h = (λ s all. h.0 ((same_fractions (limit_of c) s x).1 all), h.1)

pub part_judged : (c : Channel) (x : ℕ) (f : Front) (j : Option Passed) → f ≡ record { quality = quality.Good; minus = false; exponent = x } → Judges c f j → PartJudges c x j
part_judged c x f j front told = by_answer c x j (subst (λ (g : Front). Judges c g j) front told)

-- ---- both steps

-- the sign of a bit pattern is the number's
sign_is : (x : Float) → T (fits binary32 x) → minus_of x ≡ minus x
sign_is nan fit = minus_nan
sign_is (inf s) fit = minus_inf s
sign_is (fin s m e) fit = minus_fin s m e fit

signed_counted : (s b : Bool) (n : ℕ) → signed_of s (if_in_range b n) ≡ if_in_range b (with_sign s n)
unfolding signed_of
signed_counted s true n = refl
signed_counted s false n = refl

module _ (limit : ℕ) where
  by_sign : (x : Float) (s : Bool) → s ≡ minus x → signed_of s (converted_of limit (magnitude_of s x)) ≡ part_of limit x
  unfolding magnitude_of neg part_of
  by_sign nan true h = absurd (true≢false h)
  by_sign nan false h = signed_counted false false 0
  by_sign (inf s) true h = signed_counted true false 0
  by_sign (inf s) false h = signed_counted false false 0
  by_sign (fin true m e) true h = signed_counted true (leb (m * up e) (limit * down e)) (thousandths (fin false m e))
  by_sign (fin false m e) true h = absurd (true≢false h)
  by_sign (fin true m e) false h = absurd (true≢false (sym h))
  by_sign (fin false m e) false h = signed_counted false (leb (m * up e) (limit * down e)) (thousandths (fin false m e))

-- a number without its sign has the exponent that it had
fits_unsigned : (m : ℕ) (e : ℤ) → T (fits binary32 (fin true m e)) → T (fits binary32 (fin false m e))
unfolding fits
fits_unsigned zero e h = h
fits_unsigned (suc m) e h = h

above_the_sign : (a b : ℕ) → (0 + a + b) % 0x8000_0000 / fractions ≡ (0x8000_0000 + a + b) % 0x8000_0000 / fractions
above_the_sign a b = let h : (0 + a + b) % 0x8000_0000 ≡ (0x8000_0000 + a + b) % 0x8000_0000 = omega arith in ap (λ (z : ℕ). z / fractions) h

exponent_unsigned : (m : ℕ) (e : ℤ) → exponent_of (fin false m e) ≡ exponent_of (fin true m e)
unfolding to_bits
exponent_unsigned m e = above_the_sign _ _

exponent_inf : (s : Bool) → exponent_of (inf (not s)) ≡ exponent_of (inf s)
unfolding to_bits
exponent_inf true = refl
exponent_inf false = refl

unsigned : (s : Bool) (x : Float) → T (fits binary32 x) → s ≡ minus_of x → (minus_of (magnitude_of s x) ≡ false) × (exponent_of (magnitude_of s x) ≡ exponent_of x)
unfolding magnitude_of neg
unsigned false x fit is = (sym is, refl)
unsigned true nan fit is = absurd (true≢false (is ∙ minus_nan))
unsigned true (inf s) fit is = (minus_inf (not s) ∙ ap not (sym (minus_inf s) ∙ sym is), exponent_inf s)
unsigned true (fin false m e) fit is = absurd (true≢false (is ∙ minus_fin false m e fit))
unsigned true (fin true m e) fit is = (minus_fin false m e (fits_unsigned m e fit), exponent_unsigned m e)

module _ (c : Channel) (x : Float) (f : Front) (front : f ≡ front_of (Good x)) (j : Option Passed) (told : PartJudges c f.exponent j) (r : Option ℤ) where
  pub part_counted : T (fits binary32 x) → (p : Passed) (size : Float) (a : Option ℕ) → j ≡ Some p → size ≡ magnitude_of f.minus x
      → (JudgedBy p size → a ≡ converted_of (limit_of p.channel) size) → r ≡ signed_of f.minus a → r ≡ part_of (limit_of c) x
  unfolding front_of number_front PartJudges JudgedBy
  part_counted fit p size a is without promise q =
      let held : p ≡ record { channel = c; minus = false; exponent = f.exponent } = (subst (PartJudges c f.exponent) is told).1 in
      let had = unsigned f.minus x fit (ap (λ (g : Front). g.minus) front) in
      let sign : p.minus ≡ minus_of size = ap (λ (k : Passed). k.minus) held ∙ sym had.0 ∙ ap minus_of (sym without) in
      let same : p.exponent ≡ exponent_of size = ap (λ (k : Passed). k.exponent) held ∙ ap (λ (g : Front). g.exponent) front ∙ sym had.1 ∙ ap exponent_of (sym without) in
      q
      ∙ ap (signed_of f.minus) (promise (sign, same) ∙ ap (λ (k : Passed). converted_of (limit_of k.channel) size) held ∙ ap (converted_of (limit_of c)) without)
      ∙ by_sign (limit_of c) x f.minus (ap (λ (g : Front). g.minus) front ∙ sign_is x fit)

  pub part_stopped : reading_of f (fraction_of (Good x)) ≡ Good x → j ≡ None → r ≡ None → r ≡ part_of (limit_of c) x
  unfolding front_of number_front reading_of fraction_of number_of PartJudges EveryFractionOut
  part_stopped whole is q =
      let number = of_fields binary32 f.minus f.exponent (number_fraction x) in
      let good : f.quality ≡ quality.Good = ap (λ (g : Front). g.quality) front in
      let reading : Good number ≡ Good x = subst (λ (k : Quality). handed k number ≡ Good x) good whole in
      let same : number ≡ x = ap number_of reading in
      let out = subst (PartJudges c f.exponent) is told in
      q ∙ sym (out f.minus (number_fraction x) (mod-lt (to_bits binary32 x) (lit< tt))) ∙ ap (part_of (limit_of c)) same

pub ruleset parts = (part_judged, part_counted, part_stopped, rules)
