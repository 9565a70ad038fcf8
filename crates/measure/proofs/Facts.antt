-- Facts of rounding, for every fraction n / d: `nearest` is what its sentence says.
-- Assumes nothing.
use mathlib.Core.Path.{◌≡◌, ap}
use mathlib.Core.Logic.{inl, inr}
use Prim.Native.Nat.{ℕ, ◌+◌, ◌-◌, ◌*◌, ◌≤◌, ◌<◌}
use native.Mathlib.Nat.{le-div_iff_mul-le, div-lt_iff_lt-mul, mul-le-mul_right, eq-zero-or-pos, le_refl, le_of_eq}
use native.Mathlib.Omega.{arith}
use Rattle.measure.specs.Exact.{nearest, distance}

module _ (n d : ℕ) (over : 0 < d) where
  lower : nearest n d * (2 * d) ≤ 2 * n + d
  lower = (le-div_iff_mul-le {k = 2 * d} {x = nearest n d} {y = 2 * n + d} (omega arith)).0 (le_refl (nearest n d))

  upper : 2 * n + d < (nearest n d + 1) * (2 * d)
  upper = (div-lt_iff_lt-mul {k = 2 * d} {x = 2 * n + d} {y = nearest n d + 1} (omega arith)).0 (omega arith)

  -- a larger whole number is at least 1 away, d times
  apart : (a b : ℕ) → a < b → a * d + d ≤ b * d
  apart a b l = omega (arith, mul-le-mul_right {m = a + 1} {n = b} d (omega (arith, l)))

  above : (m : ℕ) → nearest n d < m → distance n d (nearest n d) < distance n d m
  above m l = omega (arith, lower, upper, over, apart (nearest n d) m l)

  -- "the nearest": no whole number is nearer
  pub none_nearer : (m : ℕ) → distance n d (nearest n d) ≤ distance n d m
  none_nearer m = elim (eq-zero-or-pos (m - nearest n d)) [
    | inr l ↦ omega (arith, above m (omega (arith, l)))
    | inl z ↦ elim (eq-zero-or-pos (nearest n d - m)) [
      | inr l ↦ omega (arith, lower, over, apart m (nearest n d) (omega (arith, l)))
      | inl y ↦ le_of_eq (ap (distance n d) (omega (arith, z, y)))
    ]
  ]

  -- "a half going up": another that is as near is below it
  pub half_up : (m : ℕ) → distance n d m ≡ distance n d (nearest n d) → m ≤ nearest n d
  half_up m e = elim (eq-zero-or-pos (m - nearest n d)) [ inl z ↦ omega (arith, z) | inr l ↦ omega (arith, above m (omega (arith, l)), e) ]
