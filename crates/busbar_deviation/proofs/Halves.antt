-- Tests of signed numbers by halves: 2u against n, and not above against below.
-- Assumes nothing.
use mathlib.Core.Path.{◌≡◌, refl, sym, ap}
use mathlib.Core.Bool.{Bool, true, false, not}
use Prim.Native.Nat.{ℕ, zero, suc, ◌+◌, ◌-◌, ◌*◌, ◌/◌, ◌<◌, ◌≤◌}
use native.Mathlib.Omega.{arith}
use borrow.Author.Tests.{leb-true, leb-false, le-ltb, le-leb, lt-leb}
use lib.Dec.{leb}
use lib.IntN.{ℤ, pos, negsuc, neg_ℤ, ◌-ℤ◌, ◌*ℤ◌}
use lib.Signed.{shr_z, le_z}

leb_same : (a b c d : ℕ) → (a ≤ b → c ≤ d) → (b < a → d < c) → leb a b ≡ leb c d
leb_same a b c d p q = go (leb a b) refl
  where
    go : (t : Bool) → leb a b ≡ t → t ≡ leb c d
    go true e = sym (le-leb c d (p (leb-true a b e)))
    go false e = sym (lt-leb c d (q (leb-false a b e)))

neg_pos : (n : ℕ) → 0 < n → neg_ℤ (pos n) ≡ negsuc (n - 1)
neg_pos zero h = absurd (omega arith)
neg_pos (suc n) h = ap negsuc (omega arith)

-- 2u ≤ n by u and the half of n, rounded down
pub half_le : (u n : ℤ) → le_z u (shr_z n 2) ≡ le_z (pos 2 *ℤ u) n
half_le (pos a) (pos m) = leb_same a (m / 2) (2 * a) m (λ h. omega arith) (λ h. omega arith)
half_le (pos a) (negsuc m) = refl
half_le (negsuc a) (pos m) = rw (neg_pos (2 * suc a) (omega arith))
half_le (negsuc a) (negsuc m) = rw (neg_pos (2 * suc a) (omega arith)) (leb_same (m / 2) a m (2 * suc a - 1) (λ h. omega arith) (λ h. omega arith))

-- n ≤ z exactly if not z ≤ n - 1
leb_not : (a b c d : ℕ) → (a ≤ b → d < c) → (b < a → c ≤ d) → leb a b ≡ not (leb c d)
leb_not a b c d p q = go (leb a b) refl
  where
    go : (t : Bool) → leb a b ≡ t → t ≡ not (leb c d)
    go true e = rw (lt-leb c d (p (leb-true a b e)))
    go false e = rw (le-leb c d (q (leb-false a b e)))

pub least : (n z : ℤ) → le_z n z ≡ not (le_z z (n -ℤ pos 1))
least (pos zero) (pos b) = le-leb 0 b (omega arith)
least (pos zero) (negsuc b) = rw (le-leb 0 b (omega arith))
least (pos (suc a)) (pos b) = rw (le-ltb (suc a) 1 (omega arith)) (leb_not (suc a) b b (suc a - 1) (λ h. omega arith) (λ h. omega arith))
least (pos (suc a)) (negsuc b) = rw (le-ltb (suc a) 1 (omega arith))
least (negsuc a) (pos b) = refl
least (negsuc a) (negsuc b) = leb_not b a (suc (a + 0)) b (λ h. omega arith) (λ h. omega arith)
