-- The worked values of readings, as one list and one statement (01, 'Bench values', 0x42C83333 as 02's ticket 1 has it; the rows
-- after the sixth go beyond the papers').
use Rattle.std.specs.Prelude.{◌≡◌, refl, List, [], ◌∷◌, map, ℕ}
use Rattle.std.specs.Float.{binary32}
use Rattle.std.specs.Float.Ieee.{of_bits}
use Rattle.measure.specs.declared.Channel.{Channel}
use Rattle.measure.specs.declared.Channel.TheVariants.{Voltage, Current1A, Current5A}
use Rattle.measure.specs.declared.Measured.{Measured}
use Rattle.measure.specs.declared.Measured.TheVariants as measured
use Rattle.measure.specs.declared.Reading.TheVariants.{Good}
use Rattle.measure.specs.Readings.{limit_of, good_of, measured_of}

-- what is measured, a float's bit pattern, and what a Good reading of it counts as
pub data Star : Type 0 where
  star : Channel → ℕ → Measured → Star

-- The last ten are about rounding: one that a product in floats rounds up to a half; 199.9996 V and 39.9996 A, which reach the limit;
-- the floats on the two sides of half a thousandth and below 62.5 mV; and halves that a float holds, odd sixteenths of a volt or ampere.
abbrev pub stars : List Star
stars =
    star Voltage 0x42C8_3333 (measured.Good 100100)
    ∷ star Voltage 0x4348_0000 (measured.Good 200000)
    ∷ star Voltage 0x4348_0001 measured.Missing
    ∷ star Voltage 0x8000_0000 (measured.Good 0)
    ∷ star Voltage 0x0000_0001 (measured.Good 0)
    ∷ star Voltage 0x7FC0_0000 measured.Missing
    ∷ star Voltage 0x7F80_0000 measured.Missing
    ∷ star Voltage 0xFF80_0000 measured.Missing
    ∷ star Voltage 0x8000_0001 measured.Missing
    ∷ star Voltage 0x7F7F_FFFF measured.Missing
    ∷ star Current1A 0x4220_0000 (measured.Good 40000)
    ∷ star Current1A 0x4220_0001 measured.Missing
    ∷ star Current5A 0x4220_0001 (measured.Good 40000)
    ∷ star Voltage 0x42C8_3168 (measured.Good 100096)
    ∷ star Voltage 0x4347_FFE6 (measured.Good 200000)
    ∷ star Current1A 0x421F_FF97 (measured.Good 40000)
    ∷ star Voltage 0x3A03_126E (measured.Good 0)
    ∷ star Voltage 0x3A03_126F (measured.Good 1)
    ∷ star Voltage 0x3D7F_FFFF (measured.Good 62)
    ∷ star Voltage 0x3D80_0000 (measured.Good 63)
    ∷ star Voltage 0x42C8_2000 (measured.Good 100063)
    ∷ star Voltage 0x4347_F000 (measured.Good 199938)
    ∷ star Current1A 0x421F_C000 (measured.Good 39938)
    ∷ []

abbrev pub expected : Star → Measured
expected (star c b a) = a

abbrev pub found : Star → Measured
found (star c b a) = measured_of (limit_of c) (Good (of_bits binary32 b))

pub stars_are : map found stars ≡ map expected stars
unfolding of_bits measured_of good_of
stars_are = refl
