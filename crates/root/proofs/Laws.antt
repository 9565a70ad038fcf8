-- The root by its sentence, how the code comes to it, and what follows for its users.
-- Assumes nothing.
use mathlib.Core.Path.{◌≡◌, refl, sym, ap, ◌∙◌, subst}
use mathlib.Core.Logic.{inl, inr}
use Prim.Native.Nat.{ℕ, zero, suc, ◌+◌, ◌-◌, ◌*◌, ◌%◌, ◌<◌, ◌≤◌, ◌^◌}
use native.Mathlib.Nat.{le_refl, le_trans, le_of_eq, lt_of_le_of_lt, mul-le-mul, eq-zero-or-pos, mul-one, one-mul, mod-eq_of_lt, pow-suc, mul_comm, two-mul, eq-or-lt_of_le}
use native.Mathlib.Omega.{arith}
use borrow.Author.Tests.{le-leb, lt-leb, leb-true, leb-false}
use lib.Pow.{pow_pos, pow-lt}
use mir.Val.{Fits}
use mir.Syntax.{w64}
use mir.Facts.{Fits-le, Fits-lit}
use Rattle.common.proofs.Cases.{yes, no, chosen, cases}
use Rattle.root.specs.Roots.{largest_up_to, square_within, root_of, Root, with_step}

-- ---- squares

pub square_le : {a b : ℕ} → a ≤ b → a * a ≤ b * b
square_le h = mul-le-mul h h

-- a square that is less is a smaller number's
smaller : (a b : ℕ) → a * a < b * b → a < b
smaller a b h = elim (eq-zero-or-pos (b - a)) [
  | inr l ↦ omega (arith, l)
  | inl z ↦ absurd (let g : b * b ≤ a * a = square_le (omega (arith, z)) in omega arith)
]

-- a number is not above its square
own : (a : ℕ) → a ≤ a * a
own zero = omega arith
own (suc a) = le_trans (le_of_eq (sym (mul-one (suc a)))) (mul-le-mul (le_refl (suc a)) (omega arith))

-- the largest whole number whose square is not above n is the one whose successor's square is above n
pub root_from : (n r : ℕ) → r * r ≤ n → n < (r + 1) * (r + 1) → Root n r
root_from n r h l =
    record { square = h; largest = λ m g. (let s : m < r + 1 = smaller m (r + 1) (lt_of_le_of_lt g l) in omega arith) }

-- ---- the definition is the sentence

module _ (n : ℕ) where
  step_up : (b : ℕ) → (suc b * suc b ≤ n) → largest_up_to (square_within n) (suc b) ≡ suc b
  unfolding largest_up_to
  step_up b h = sym (yes _ _ _ _ (le-leb _ _ h) refl)

  step_by : (b : ℕ) → n < suc b * suc b → largest_up_to (square_within n) (suc b) ≡ largest_up_to (square_within n) b
  unfolding largest_up_to
  step_by b h = sym (no _ _ _ _ (lt-leb _ _ h) refl)

  -- from where the root is not above on, the scan finds it
  scanned : (r b : ℕ) → Root n r → r ≤ b → largest_up_to (square_within n) b ≡ r
  unfolding largest_up_to
  scanned r zero k h = omega arith
  scanned r (suc b) k h = elim (eq-or-lt_of_le h) [
    | inl e ↦ step_up b (subst (λ (m : ℕ). m * m ≤ n) e k.square) ∙ sym e
    | inr l ↦ step_by b (above b l) ∙ scanned r b k (omega (arith, l))
  ]
    where
      above : (b : ℕ) → r < suc b → n < suc b * suc b
      above b l = elim (eq-zero-or-pos (suc b * suc b - n)) [
        | inr p ↦ omega (arith, p)
        | inl z ↦ absurd (let g : suc b ≤ r = k.largest (suc b) (omega (arith, z)) in omega arith)
      ]

  pub root_by : {r : ℕ} → Root n r → r ≡ root_of n
  unfolding root_of
  root_by {r} k = sym (scanned r n k (le_trans (own r) k.square))

  scan_root : (b : ℕ) → ((m : ℕ) → m * m ≤ n → m ≤ b) → Root n (largest_up_to (square_within n) b)
  unfolding largest_up_to
  scan_root zero h = record { square = omega arith; largest = h }
  scan_root (suc b) h = elim (eq-zero-or-pos (suc b * suc b - n)) [
    | inl z ↦ rw (step_up b (omega (arith, z))) (record { square = omega (arith, z); largest = h })
    | inr l ↦ rw (step_by b (omega (arith, l))) (scan_root b (λ m g. below b m g (omega (arith, l)) (h m g)))
  ]
    where
      below : (b m : ℕ) → m * m ≤ n → n < suc b * suc b → m ≤ suc b → m ≤ b
      below b m g l k = (let s : m < suc b = smaller m (suc b) (lt_of_le_of_lt g l) in omega arith)

  -- "the largest whole number whose square is not above": the definition gives it, for every number
  pub root_is : Root n (root_of n)
  unfolding root_of
  root_is = scan_root n (λ m h. le_trans (own m) h)

-- the root of a larger number is not smaller
pub root_monotone : (n m : ℕ) → n ≤ m → root_of n ≤ root_of m
root_monotone n m h = (root_is m).largest (root_of n) (le_trans (root_is n).square h)

-- the root of a square is the number itself
pub root_square : (r : ℕ) → root_of (r * r) ≡ r
root_square r = sym (root_by (r * r) (root_from (r * r) r (le_refl (r * r)) (let g : (r + 1) * (r + 1) ≡ r * r + (2 * r + 1) = omega arith in omega (arith, g))))

-- where the root is not above a bound, a number below the next square
pub root_most : (n b : ℕ) → n < (b + 1) * (b + 1) → root_of n ≤ b
root_most n b h = (let s : root_of n < b + 1 = smaller (root_of n) (b + 1) (lt_of_le_of_lt (root_is n).square h) in omega arith)

-- ---- the code: the root lies between r and r + g

pub record Between (n r g : ℕ) : Type 0 where
  pub square : r * r ≤ n
  pub above : n < (r + g) * (r + g)
  pub small : r + g ≤ 2 ^ 32

pub begun : (n : ℕ) → n < 2 ^ 64 → Between n 0 (2 ^ 32)
begun n h = record { square = omega arith; above = h; small = le_refl (2 ^ 32) }

twice : (i : ℕ) → 0 < i → 2 ^ i ≡ 2 ^ (i - 1) + 2 ^ (i - 1)
twice i h = ap (λ (j : ℕ). 2 ^ j) (let z : i ≡ suc (i - 1) = omega arith in z) ∙ pow-suc 2 (i - 1) ∙ mul_comm (2 ^ (i - 1)) 2 ∙ two-mul (2 ^ (i - 1))

-- a one that is shifted does not leave the word
shifted : (j : ℕ) → j < 64 → 1 * 2 ^ j % 2 ^ 64 ≡ 2 ^ j
shifted j h = rw (one-mul (2 ^ j)) (mod-eq_of_lt (pow-lt h))

module _ (n r i : ℕ) (low : 0 < i) (few : i ≤ 32) (b : Between n r (2 ^ i)) where
  is_half : 1 * 2 ^ (i - 1) % 2 ^ 64 ≡ 2 ^ (i - 1)
  is_half = shifted (i - 1) (omega arith)

  pub room : r + 1 * 2 ^ (i - 1) % 2 ^ 64 < 2 ^ 32
  room = rw is_half (omega (arith, twice i low, b.small, pow_pos (i - 1)))

  pub halved : {t : ℕ} → t ≡ with_step n r (1 * 2 ^ (i - 1) % 2 ^ 64) → Between n t (2 ^ (i - 1))
  unfolding with_step
  halved {t} e = subst (λ (m : ℕ). Between n m (2 ^ (i - 1))) (sym (e ∙ ap (with_step n r) is_half)) either
    where
      whole : r + 2 ^ (i - 1) + 2 ^ (i - 1) ≡ r + 2 ^ i
      whole = omega (arith, twice i low)

      either : Between n (with_step n r (2 ^ (i - 1))) (2 ^ (i - 1))
      either =
          chosen (λ (t : ℕ). Between n t (2 ^ (i - 1))) (square_within n (r + 2 ^ (i - 1))) (r + 2 ^ (i - 1)) r
          (λ p. record { square = leb-true _ _ p; above = rw whole b.above; small = rw whole b.small })
          (λ p. record { square = b.square; above = leb-false _ _ p; small = omega (arith, twice i low, b.small) })

pub square_fits : {t : ℕ} → t < 2 ^ 32 → Fits w64 (t * t)
square_fits {t} h = Fits-le {n = 4294967295 * 4294967295} (square_le {b = 4294967295} (omega arith)) (Fits-lit tt)

pub answer : (n r i : ℕ) → i ≤ 0 → Between n r (2 ^ i) → (r ≡ root_of n) × Root n r
answer n r i h b =
    let o : 2 ^ i ≡ 1 = ap (λ (j : ℕ). 2 ^ j) (let z : i ≡ 0 = omega arith in z) in
    let k = root_from n r b.square (rw o at b.above) in
    (root_by n k, k)

pub ruleset steps = (square_fits, cases)
