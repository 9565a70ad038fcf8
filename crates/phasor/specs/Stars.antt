-- Worked values of pairs, as one list and one statement.
use Rattle.std.specs.Prelude.{◌≡◌, refl, List, [], ◌∷◌, map, ℕ, ℤ, pos, negsuc, Option, None, Some}
use Rattle.std.specs.Float.{binary32}
use Rattle.std.specs.Float.Ieee.{of_bits}
use Rattle.measure.specs.declared.Channel.{Channel}
use Rattle.measure.specs.declared.Channel.TheVariants.{Voltage, Current1A, Current5A}
use Rattle.measure.specs.declared.Reading.{Reading}
use Rattle.measure.specs.declared.Reading.TheVariants.{Good, Held, Invalid}
use Rattle.measure.specs.Readings.{limit_of}
use Rattle.phasor.specs.Pairs.{with_sign, part_of, fresh_of, paired_of, counted_of, vector_of}
use Rattle.phasor.specs.declared.Vector.{Vector}

-- what is measured, the two readings, and what the pair counts as
pub data Star : Type 0 where
  star : Channel → Reading → Reading → Option Vector → Star

abbrev float : ℕ → Reading
float bits = Good (of_bits binary32 bits)

abbrev pair : ℤ → ℤ → Option Vector
pair re im = Some (record { re = re; im = im })

-- −100.1 and 100.1; both ends, and the floats beyond them; −0.0; on both sides of minus half a thousandth; a half of a thousandth,
-- which goes away from 0; a 1 A module's ends; infinities and a NaN; Held and Invalid parts
abbrev pub stars : List Star
stars =
    star Voltage (float 0xC2C8_3333) (float 0x42C8_3333) (pair (negsuc 100099) (pos 100100))
    ∷ star Voltage (float 0xC348_0000) (float 0x4348_0000) (pair (negsuc 199999) (pos 200000))
    ∷ star Voltage (float 0xC348_0001) (float 0x0000_0000) None
    ∷ star Voltage (float 0x0000_0000) (float 0x4348_0001) None
    ∷ star Voltage (float 0x8000_0000) (float 0x8000_0001) (pair (pos 0) (pos 0))
    ∷ star Voltage (float 0xBA03_126E) (float 0xBA03_126F) (pair (pos 0) (negsuc 0))
    ∷ star Voltage (float 0xBD80_0000) (float 0x3D80_0000) (pair (negsuc 62) (pos 63))
    ∷ star Current1A (float 0xC220_0000) (float 0x4220_0000) (pair (negsuc 39999) (pos 40000))
    ∷ star Current1A (float 0xC220_0001) (float 0x4220_0000) None
    ∷ star Current5A (float 0xC220_0001) (float 0x4220_0001) (pair (negsuc 39999) (pos 40000))
    ∷ star Voltage (float 0xFF80_0000) (float 0x0000_0000) None
    ∷ star Voltage (float 0x0000_0000) (float 0x7FC0_0000) None
    ∷ star Voltage (float 0x42C8_0000) (Held (of_bits binary32 0x42C8_0000)) None
    ∷ star Voltage Invalid (float 0x42C8_0000) None
    ∷ []

abbrev pub expected : Star → Option Vector
expected (star c re im v) = v

abbrev pub found : Star → Option Vector
found (star c re im v) = vector_of (limit_of c) (record { re = re; im = im })

pub stars_are : map found stars ≡ map expected stars
unfolding of_bits with_sign part_of fresh_of paired_of counted_of vector_of
stars_are = refl
