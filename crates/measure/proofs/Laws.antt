-- What the functions' proofs cite: a float's exact fraction from its bit pattern, and the range by the two comparisons of the code.
-- None of it but the last section knows how a fraction is rounded. Assumes nothing.
use mathlib.Core.Path.{◌≡◌, refl, sym, ap, ◌∙◌, subst}
use mathlib.Core.Logic.{inl, inr}
use Prim.Native.Nat.{ℕ, zero, suc, ◌+◌, ◌-◌, ◌*◌, ◌/◌, ◌%◌, ◌^◌, ◌≤◌, ◌<◌}
use native.Mathlib.Nat.{le_trans, le_of_eq, le_of_lt, eq-or-lt_of_le, mul-one, add_comm, zero-mul, lt_of_not-le, mul_assoc, mul_comm, mul_right_comm, mul-le-mul, mul-le-mul_right, mul-le-mul_left, le_of_mul-le-mul_right, eq_of_mul-eq-mul_right, mul-div-mul_right, div-eq_of_lt, div-le_of_le-mul, div-lt_iff_lt-mul, div-div-eq-div-mul, add-div_right, eq-zero-or-pos, mod-lt}
use native.Mathlib.Omega.{arith}
use mathlib.Core.Bool.{Bool, true, false, not, ◌&&◌, ◌||◌, cond, true≢false}
use lib.Dec.{T, leb, ltb, eqb, le→leb, leb→le, ltb→lt, eqb→eq, lit≤, lit<}
use lib.IntN.{pos}
use borrow.Author.Tests.{lt-ltb, le-ltb, le-leb, eq-eqb, ne_eqb}
use lib.Pow.{pow-add, pow_pos, pow_mono}
use lib.Ieee.{Float, nan, inf, fin, binary32, up, down, odd, of_fields, of_bits, to_bits, of_int, fits, is_nan, le}
use lib.Ieee.Fits.{and_i, and_l, and_r, down_pos}
use lib.Ieee.Bits.{of_bits-to_bits}
use lib.Ieee.Exact.{HasValue, odd_sign}
use lib.Ieee.Back.{round_whole}
use lib.Ieee.Scale.{finite}
use lib.Ieee.Positive.{num, den, den_pos}
use Rattle.measure.specs.Exact.{counts, in_range, nearest, thousandths}
use Rattle.measure.specs.Readings.{most_volts, limit_of, if_in_range, converted_of, good_of, held_of, measured_of, AtMost}
use Rattle.measure.specs.Fields.{minus_of, exponent_of, number_fraction}
use Rattle.measure.specs.declared.Measured.{Measured}
use Rattle.measure.specs.declared.Channel.{Channel}
use Rattle.measure.specs.declared.Channel.TheVariants.{Voltage, Current1A, Current5A}
use Rattle.std.specs.Prelude.{Some, None}
use Rattle.measure.specs.declared.Reading.{Reading}
use Rattle.measure.specs.declared.Reading.TheVariants.{Good, Held, Invalid}

-- ---- a finite value is its bit pattern's number of units of 2 ^ -149

abbrev pub exponent : ℕ → ℕ
exponent b = b % 0x8000_0000 / 0x80_0000

abbrev pub units : ℕ → ℕ → ℕ
units zero t = t * 2 ^ 0
units (suc k) t = (0x80_0000 + t) * 2 ^ k

-- with the highest exponent, an infinity or a NaN
pub highest : (s : Bool) (x t : ℕ) → x ≡ 255 → T (finite (of_fields binary32 s x t)) → ⊥
unfolding of_fields
highest s zero t e f = absurd (omega (arith, e))
highest s (suc x) t e f = go (eqb t 0) (subst (λ (b : Bool). T (finite (cond b (cond (eqb t 0) (inf s) nan) (odd 24 s (0x80_0000 + t) x 149)))) (eq-eqb (suc x) 255 e) f)
  where
    go : (b : Bool) → T (finite (cond b (inf s) nan)) → ⊥
    go true h = absurd h
    go false h = absurd h

pub fields_value : (s : Bool) (x t : ℕ) → (x ≡ 255 → ⊥) → HasValue (of_fields binary32 s x t) s (units x t) (2 ^ 149)
unfolding of_fields
fields_value s zero t n = odd_sign 24 s t 0 149
fields_value s (suc x) t n = rw (ne_eqb (suc x) 255 n) (odd_sign 24 s (0x80_0000 + t) x 149)

-- a finite number by its bit pattern, whose sign is its own
pub bits_value : (x : Float) → T (fits binary32 x) → T (finite x) → HasValue x (minus_of x) (units (exponent_of x) (number_fraction x)) (2 ^ 149)
unfolding of_bits
bits_value x fit fine =
    let same = of_bits-to_bits binary32 x fit in
    subst (λ (y : Float). HasValue y (minus_of x) (units (exponent_of x) (number_fraction x)) (2 ^ 149)) same
    (fields_value (minus_of x) (exponent_of x) (number_fraction x) (λ e. highest (minus_of x) (exponent_of x) (number_fraction x) e (subst (λ (y : Float). T (finite y)) (sym same) fine)))

cross : (x : Float) (s : Bool) (a c : ℕ) → HasValue x s a c → num x * c ≡ a * den x
cross nan s a c h = absurd h
cross (inf t) s a c h = absurd h
cross (fin t m e) s a c h = h.1

value : (x : Float) → T (fits binary32 x) → T (finite x) → num x * 2 ^ 149 ≡ units (exponent_of x) (number_fraction x) * den x
value x fit fine = cross x (minus_of x) (units (exponent_of x) (number_fraction x)) (2 ^ 149) (bits_value x fit fine)

-- ---- the fraction n / d of such a value, which is at most 200: at most 2 ^ -11 for an exponent below 116, else a fraction over a power of two that a `u64` can be shifted by
-- (`omega` reads no number of more than 38 digits, so the powers above 2 ^ 126 are cancelled by laws)

cancel : (n d a u p : ℕ) → 0 < p → n * (a * p) ≡ u * d → u ≤ p → n * a ≤ d
cancel n d a u p P e h =
    le_of_mul-le-mul_right (le_trans (le_of_eq (mul_assoc n a p ∙ e)) (le_trans (mul-le-mul_right d h) (le_of_eq (mul_comm p d)))) P

units_le : (x t : ℕ) → t < 0x80_0000 → x < 116 → units x t ≤ 2 ^ 138
units_le zero t l h = le_trans {m = 2 ^ 23} (omega arith) (lit≤ tt)
units_le (suc k) t l h = mul-le-mul {n₂ = 2 ^ 24} {m₂ = 2 ^ 114} (omega arith) (pow_mono {i = k} {j = 114} (omega arith))

small : (x t n d : ℕ) → t < 0x80_0000 → x < 116 → n * 2 ^ 149 ≡ units x t * d → n * 2048 ≤ d
small x t n d l h e = cancel n d 2048 (units x t) (2 ^ 138) (pow_pos 138) e (units_le x t l h)

top : (k t n d : ℕ) → 0 < d → n ≤ most_volts * d → n * 2 ^ 149 ≡ (0x80_0000 + t) * 2 ^ k * d → k < 134
top k t n d D h e =
    lt_of_not-le (λ (g : 134 ≤ k).
    let lo : 2 ^ 23 * 2 ^ 134 ≤ (0x80_0000 + t) * 2 ^ k = mul-le-mul {n₁ = 2 ^ 23} {m₁ = 2 ^ 134} (omega arith) (pow_mono g) in
    let hi : (0x80_0000 + t) * 2 ^ k ≤ most_volts * 2 ^ 149 = le_of_mul-le-mul_right (le_trans (le_of_eq (sym e)) (le_trans (mul-le-mul_right (2 ^ 149) h) (le_of_eq (mul_right_comm most_volts d (2 ^ 149))))) D in
    absurd (le→leb (2 ^ 23 * 2 ^ 134) (most_volts * 2 ^ 149) (le_trans lo hi)))

large : (x t n d : ℕ) → 0 < d → 116 ≤ x → n ≤ most_volts * d → n * 2 ^ 149 ≡ units x t * d → (x ≤ 134) × (n * 2 ^ (150 - x) ≡ (0x80_0000 + t) * d)
large zero t n d D h g e = absurd (le→leb 116 0 h)
large (suc k) t n d D h g e =
    let l : k < 134 = top k t n d D g e in
    let s : 2 ^ (150 - suc k) * 2 ^ k ≡ 2 ^ 149 = sym (pow-add 2 (150 - suc k) k) ∙ ap (λ (i : ℕ). 2 ^ i) (split k l) in (
      l,
      eq_of_mul-eq-mul_right (2 ^ k) (pow_pos k) (n * 2 ^ (150 - suc k)) ((0x80_0000 + t) * d)
          (mul_assoc n (2 ^ (150 - suc k)) (2 ^ k) ∙ ap (λ (i : ℕ). n * i) s ∙ e ∙ mul_right_comm (0x80_0000 + t) (2 ^ k) d),
    )
  where
    split : (k : ℕ) → k < 134 → 150 - suc k + k ≡ 149
    split k l = omega arith

-- what an x in the range is, by its bits
pub counts_finite : (x : Float) → T (counts x) → T (finite x)
counts_finite nan h = h
counts_finite (inf s) h = h
counts_finite (fin s m e) h = tt

pub no_nan : (x : Float) → T (counts x) → T (not (is_nan x))
unfolding is_nan
no_nan nan h = h
no_nan (inf s) h = tt
no_nan (fin s m e) h = tt

pub record Parts (n d b : ℕ) : Type 0 where
  pub over : 0 < d
  pub upper : n ≤ most_volts * d
  pub below : exponent b < 116 → n * 2048 ≤ d
  pub above : 116 ≤ exponent b → (exponent b ≤ 134) × (n * 2 ^ (150 - exponent b) ≡ (b % 0x80_0000 + 0x80_0000) * d)

pub parts : (x : Float) → T (fits binary32 x) → T (in_range most_volts x) → Parts (num x) (den x) (to_bits binary32 x)
parts x fit h =
    let b = to_bits binary32 x in
    let v = value x fit (counts_finite x (and_l (counts x) (leb (num x) (most_volts * den x)) h)) in
    let u : num x ≤ most_volts * den x = leb→le (num x) (most_volts * den x) (and_r (counts x) (leb (num x) (most_volts * den x)) h) in
    record {
      over = den_pos x;
      upper = u;
      below = λ l. small (exponent b) (b % 0x80_0000) (num x) (den x) (mod-lt b (lit< tt)) l v;
      above = λ l. rw (add_comm (b % 0x80_0000) 0x80_0000) (large (exponent b) (b % 0x80_0000) (num x) (den x) (den_pos x) l u v);
    }

-- ---- the range, as the code's two comparisons find it, with a number l that is n

pub same_test : (a b : Bool) → (T a → T b) → (T b → T a) → a ≡ b
same_test true true p q = refl
same_test true false p q = absurd (p tt)
same_test false true p q = absurd (q tt)
same_test false false p q = refl

either : (p q : Bool) (a b : ℕ) → (T p → a < b) → (T q → a ≡ b) → T (p || (q && true)) → a ≤ b
either true q a b f g t = le_of_lt (f tt)
either false true a b f g t = le_of_eq (g tt)
either false false a b f g t = absurd t

-- `le` of two numbers that are not negative, and of -a and b where a is 0
le_is : (a b : ℕ) → (ltb a b || (eqb a b && true)) ≡ leb a b
le_is a b =
    same_test (ltb a b || (eqb a b && true)) (leb a b)
    (λ t. le→leb a b (either (ltb a b) (eqb a b) a b (ltb→lt a b) (eqb→eq a b) t))
    (λ t. elim (eq-or-lt_of_le (leb→le a b t)) [ inl e ↦ rw (le-ltb a b (le_of_eq (sym e)), eq-eqb a b e) tt | inr l ↦ rw (lt-ltb a b l) tt ])

minus_zero : (a b : ℕ) → a ≡ 0 → (ltb 0 (a + b) || (eqb a b && eqb a 0)) ≡ true
minus_zero a b e = elim (eq-zero-or-pos b) [
  | inl z ↦ rw (le-ltb 0 (a + b) (omega arith), eq-eqb a b (omega arith), eq-eqb a 0 e)
  | inr l ↦ rw (lt-ltb 0 (a + b) (omega arith))
]

-- a value n' * up d / down d that is n / 1
against : (m n' d n u : ℕ) → 0 < d → n' * 1 ≡ n * d → leb (m * d) (n' * u) ≡ leb m (n * u)
against m n' d n u D e =
    let r : n' * u ≡ n * u * d = ap (λ (z : ℕ). z * u) (sym (mul-one n') ∙ e) ∙ mul_right_comm n d u in
    same_test (leb (m * d) (n' * u)) (leb m (n * u))
    (λ t. le→leb m (n * u) (le_of_mul-le-mul_right (le_trans (leb→le (m * d) (n' * u) t) (le_of_eq r)) D))
    (λ t. le→leb (m * d) (n' * u) (le_trans (mul-le-mul_right d (leb→le m (n * u) t)) (le_of_eq (sym r))))

pub range_is : (n : ℕ) (x l : Float) → HasValue l false n 1 → (le (fin false 0 (pos 0)) x && le x l) ≡ in_range n x
unfolding le
range_is n x nan v = absurd v
range_is n x (inf t) v = absurd v
range_is n x (fin true n' d) v = absurd (true≢false v.0)
range_is n nan (fin false n' d) v = refl
range_is n (inf true) (fin false n' d) v = refl
range_is n (inf false) (fin false n' d) v = refl
range_is n (fin true m e) (fin false n' d) v = elim (eq-zero-or-pos (m * up e)) [
  | inl z ↦
      rw (eq-eqb (0 * 1 * down e) (m * up e * 1) (omega arith), eq-eqb (0 * 1 * down e) 0 (omega arith), eq-eqb (m * up e) 0 z, le-leb (m * up e) (n * down e) (omega arith))
      (minus_zero (m * up e * down d) (n' * up d * down e) (ap (λ (k : ℕ). k * down d) z ∙ zero-mul (down d)))
  | inr p ↦ rw (ne_eqb (0 * 1 * down e) (m * up e * 1) (λ q. omega arith), ne_eqb (m * up e) 0 (λ q. omega arith))
]
range_is n (fin false m e) (fin false n' d) v =
    rw (le_is (0 * 1 * down e) (m * up e * 1), le_is (m * up e * down d) (n' * up d * down e), le-leb (0 * 1 * down e) (m * up e * 1) (omega arith))
    (against (m * up e) (n' * up d) (down d) n (down e) (down_pos d) v.1)

-- with the code's 0.0, and its limit as a float
pub decided : (n : ℕ) (x : Float) (p q : Bool) → n ≤ most_volts → le (of_bits binary32 0) x ≡ p → le x (of_int binary32 (pos n)) ≡ q → in_range n x ≡ (p && q)
unfolding of_bits of_int
decided n x p q h e f = sym (range_is n x (of_int binary32 (pos n)) (round_whole binary32 false n (le_trans h (lit≤ tt)))) ∙ ap (λ (t : Bool). t && le x (of_int binary32 (pos n))) e ∙ ap (λ (t : Bool). p && t) f

pub wider : (n : ℕ) (x : Float) → n ≤ most_volts → T (in_range n x) → T (in_range most_volts x)
wider n x h t =
    and_i (counts x) (leb (num x) (most_volts * den x)) (and_l (counts x) (leb (num x) (n * den x)) t)
    (le→leb (num x) (most_volts * den x) (le_trans (leb→le (num x) (n * den x) (and_r (counts x) (leb (num x) (n * den x)) t)) (mul-le-mul_right (den x) h)))

-- the outcomes of the two comparisons, as the code has them, with its limit n
module _ (c : Channel) (x : Float) (n : ℕ) (is : n ≡ limit_of c) (above : Bool) (first : le (of_bits binary32 0) x ≡ above) where
  limit_le : n ≤ most_volts
  limit_le = rw is (go c)
    where
      go : (c : Channel) → limit_of c ≤ most_volts
      go Voltage = lit≤ tt
      go Current1A = lit≤ tt
      go Current5A = lit≤ tt

  outcome : (below : Bool) → le x (of_int binary32 (pos n)) ≡ below → in_range n x ≡ (above && below)
  outcome below second = decided n x above below limit_le first second

  pub taken : above ≡ true → le x (of_int binary32 (pos n)) ≡ true → T (in_range most_volts x)
  taken a second = wider n x limit_le (subst T (sym (outcome true second ∙ ap (λ (b : Bool). b && true) a)) tt)

  pub converted_whole : (t : ℕ) → above ≡ true → le x (of_int binary32 (pos n)) ≡ true → t ≡ thousandths x → Some t ≡ converted_of (limit_of c) x
  converted_whole t a second e = rw (← is, outcome true second, a) (ap Some e)

  pub converted_above : above ≡ true → le x (of_int binary32 (pos n)) ≡ false → None ≡ converted_of (limit_of c) x
  converted_above a second = rw (← is, outcome false second, a)

  pub converted_below : above ≡ false → None ≡ converted_of (limit_of c) x
  converted_below a = rw (← is, outcome (le x (of_int binary32 (pos n))) refl, a)

-- ---- rounding: a rule that gives equal fractions the same number

abbrev Same : (ℕ → ℕ → ℕ) → Type 0
Same g = (a c u : ℕ) → 0 < u → g (a * u) (c * u) ≡ g a c

equal : (g : ℕ → ℕ → ℕ) → Same g → (n d a c : ℕ) → 0 < d → 0 < c → n * c ≡ a * d → g n d ≡ g a c
equal g s n d a c D C e = sym (s n d c C) ∙ ap (λ (z : ℕ). g z (d * c)) e ∙ ap (λ (z : ℕ). g (a * d) z) (mul_comm d c) ∙ s a c d D

-- the largest whole number not above k times the fraction, for a k up to 2000
floor_same : (k : ℕ) → Same (λ (a c : ℕ). k * a / c)
floor_same k a c u U = ap (λ (z : ℕ). z / (c * u)) (sym (mul_assoc k a u)) ∙ mul-div-mul_right (k * a) c U

module _ (k : ℕ) (few : k ≤ 2000) (n d b : ℕ) (p : Parts n d b) where
  pub floor_zero : exponent b < 116 → 0 ≡ k * n / d
  floor_zero l = let h = p.below l in let D = p.over in let m : k * n ≤ 2000 * n = mul-le-mul_right n few in sym (div-eq_of_lt (omega arith))

  pub floor_is : 116 ≤ exponent b → k * (b % 0x80_0000 + 0x80_0000) / 2 ^ (150 - exponent b) ≡ k * n / d
  floor_is l = sym (equal (λ (a c : ℕ). k * a / c) (floor_same k) n d (b % 0x80_0000 + 0x80_0000) (2 ^ (150 - exponent b)) p.over (pow_pos (150 - exponent b)) (p.above l).1)

  floor_le : k * n / d ≤ 400000
  floor_le = let h = p.upper in let m : k * n ≤ 2000 * n = mul-le-mul_right n few in div-le_of_le-mul d (le_trans {m = 400000 * d} (omega arith) (le_of_eq (mul_comm 400000 d)))

  pub shifted_le : 116 ≤ exponent b → k * (b % 0x80_0000 + 0x80_0000) / 2 ^ (150 - exponent b) ≤ 400000
  shifted_le l = rw (floor_is l) floor_le

-- the nearest whole number, by the whole number of halves
pub halved : (n d halves : ℕ) → 0 < d → halves ≡ 2 * n / d → (halves + 1) / 2 ≡ nearest n d
halved n d halves D e = ap (λ (z : ℕ). (z + 1) / 2) e ∙ ap (λ (z : ℕ). z / 2) (sym (add-div_right (2 * n) D)) ∙ div-div-eq-div-mul (2 * n + d) d 2 ∙ ap (λ (z : ℕ). (2 * n + d) / z) (mul_comm d 2)

-- where a fraction is not above the whole number m, neither is the one nearest to it
pub nearest_le : (n d m : ℕ) → 0 < d → n ≤ m * d → nearest n d ≤ m
nearest_le n d m D h = omega (arith, (div-lt_iff_lt-mul {k = 2 * d} {x = 2 * n + d} {y = m + 1} (omega arith)).1 (omega (arith, h)))

-- ---- a measured number is at most 1000 times its limit

thousandths_le : (l : ℕ) (x : Float) → T (in_range l x) → thousandths x ≤ 1000 * l
thousandths_le l x t =
    nearest_le (1000 * num x) (den x) (1000 * l) (den_pos x)
    (le_trans (mul-le-mul_left 1000 (leb→le (num x) (l * den x) (and_r (counts x) (leb (num x) (l * den x)) t))) (le_of_eq (sym (mul_assoc 1000 l (den x)))))

converted_le : (b : Bool) (t l : ℕ) → (T b → t ≤ 1000 * l) → (AtMost (1000 * l) (good_of (if_in_range b t))) × (AtMost (1000 * l) (held_of (if_in_range b t)))
unfolding AtMost good_of held_of
converted_le true t l h = (h tt, h tt)
converted_le false t l h = (tt, tt)

measured_le : (l : ℕ) (r : Reading) → AtMost (1000 * l) (measured_of l r)
unfolding AtMost measured_of
measured_le l (Good x) = (converted_le (in_range l x) (thousandths x) l (thousandths_le l x)).0
measured_le l (Held x) = (converted_le (in_range l x) (thousandths x) l (thousandths_le l x)).1
measured_le l Invalid = tt

pub measured : (l : ℕ) (r : Reading) {m : Measured} → m ≡ measured_of l r → (m ≡ measured_of l r) × AtMost (1000 * l) m
measured l r e = (e, rw e (measured_le l r))
