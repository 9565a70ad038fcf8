-- Which patterns are a NaN's.
-- Assumes nothing.
use mathlib.Core.Path.{◌≡◌, refl, sym, ◌∙◌}
use mathlib.Core.Bool.{Bool, not, true, false}
use Prim.Native.Nat.{ℕ, ◌%◌, ◌<◌, ◌≤◌}
use borrow.Author.Tests.{lt-ltb, le-ltb}
use lib.Dec.{T}
use lib.Ieee.{Float, nan, inf, fin, binary32, of_bits, nan_bits, is_nan}
use lib.Ieee.Bits.{nan_bits_above, nan_bits_is}

-- a pattern that is not above infinity's, the sign left out, is no NaN's
pub no_nan : (b : ℕ) → b % 0x8000_0000 ≤ 0x7F80_0000 → T (not (nan_bits binary32 b))
no_nan b h = rw (nan_bits_above, le-ltb 0x7F80_0000 (b % 0x8000_0000) h) tt

is_nan_lem : (x : Float) → is_nan x ≡ true → nan ≡ x
unfolding is_nan
is_nan_lem nan e = refl
is_nan_lem (inf s) e = let z : ◌≡◌ {A = Bool} false true = e in cc
is_nan_lem (fin s m d) e = let z : ◌≡◌ {A = Bool} false true = e in cc

-- and one that is above it is a NaN's
pub a_nan : (b : ℕ) → 0x7F80_0000 < b % 0x8000_0000 → nan ≡ of_bits binary32 b
a_nan b h = is_nan_lem (of_bits binary32 b) (sym (nan_bits_is binary32 b) ∙ nan_bits_above binary32 b ∙ lt-ltb 0x7F80_0000 (b % 0x8000_0000) h)
