-- The fields of a number's bit pattern. Definitions only.
use Rattle.std.specs.Prelude.{ℕ, ◌/◌, ◌%◌, Bool, leb, Float}
use Rattle.std.specs.Float.{binary32}
use Rattle.std.specs.Float.Ieee.{to_bits}

-- a fraction has 23 binary digits
abbrev pub fractions : ℕ
fractions = 0x80_0000

-- a NaN, of which the language tells no pattern, has no sign and the exponent 255
abbrev pub minus_of : Float → Bool
minus_of x = leb 0x8000_0000 (to_bits binary32 x)

abbrev pub exponent_of : Float → ℕ
exponent_of x = to_bits binary32 x % 0x8000_0000 / fractions

abbrev pub number_fraction : Float → ℕ
number_fraction x = to_bits binary32 x % fractions
