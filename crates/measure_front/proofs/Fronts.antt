-- A reading taken apart: its front and its fraction are the whole of it.
-- Assumes nothing.
use mathlib.Core.Path.{◌≡◌, refl, sym, ap}
use mathlib.Core.Bool.{Bool, true, false, true≢false}
use Prim.Native.Nat.{ℕ, ◌<◌}
use native.Mathlib.Nat.{mod-lt}
use borrow.Author.Rules.{rules}
use lib.Dec.{T, lit<}
use lib.IntN.{ℤ}
use lib.Ieee.{Float, nan, inf, fin, binary32, of_fields, of_bits, to_bits, fits, is_nan}
use lib.Ieee.Bits.{of_bits-to_bits}
use Rattle.measure.proofs.Laws.{bits_value}
use Rattle.measure.specs.Fields.{fractions, minus_of, exponent_of, number_fraction}
use Rattle.measure_front.specs.Fronts.{handed, reading_of, number_front, fraction_of}
use Rattle.measure.specs.declared.Reading.{Reading}
use Rattle.measure.specs.declared.Reading.TheVariants.{Good, Held, Invalid}
use Rattle.measure_front.specs.declared.Front.{Front}
use Rattle.measure_front.specs.declared.Quality.{Quality}

-- ---- a number taken apart

no_number : (x : Float) → is_nan x ≡ true → x ≡ nan
unfolding is_nan
no_number nan e = refl
no_number (inf s) e = absurd (true≢false (sym e))
no_number (fin s m d) e = absurd (true≢false (sym e))

module _ (f : Front) (q : Quality) (x : Float) where
  module _ (none : is_nan x ≡ true) (is : f ≡ record { quality = q; minus = false; exponent = 255 }) where
    pub front_nan : f ≡ number_front q x
    unfolding number_front to_bits
    front_nan = rw (no_number x none) is

    pub whole_nan : reading_of f (number_fraction x) ≡ handed q x
    unfolding reading_of to_bits of_fields
    whole_nan = rw (no_number x none, is)

  module _ (is : f ≡ record { quality = q; minus = minus_of x; exponent = exponent_of x }) where
    pub front_number : f ≡ number_front q x
    unfolding number_front
    front_number = is

    pub whole_number : T (fits binary32 x) → reading_of f (number_fraction x) ≡ handed q x
    unfolding reading_of of_bits
    whole_number fit = rw is (ap (handed q) (of_bits-to_bits binary32 x fit))

-- the bit pattern's sign is the number's
pub minus_nan : minus_of nan ≡ false
unfolding to_bits
minus_nan = refl

pub minus_inf : (s : Bool) → minus_of (inf s) ≡ s
unfolding to_bits
minus_inf true = refl
minus_inf false = refl

pub minus_fin : (s : Bool) (m : ℕ) (e : ℤ) → T (fits binary32 (fin s m e)) → minus_of (fin s m e) ≡ s
minus_fin s m e fit = sym (bits_value (fin s m e) fit tt).0

pub ruleset number_fronts = (front_nan, whole_nan, front_number, whole_number, rules)

-- ---- a reading's fraction

pub fraction_lt : (r : Reading) → fraction_of r < fractions
unfolding fraction_of
fraction_lt (Good x) = mod-lt (to_bits binary32 x) (lit< tt)
fraction_lt (Held x) = mod-lt (to_bits binary32 x) (lit< tt)
fraction_lt Invalid = lit< tt
