-- What comes before a number's fraction (02, ticket 4): "The module hands over the exponent before the fraction. The conversion of one
-- reading shall judge quality, sign and exponent first". Definitions only.
use Rattle.std.specs.Prelude.{ℕ, ◌<◌, ◌≡◌, Bool, true, false, pos, Float}
use Rattle.std.specs.Float.{binary32}
use Rattle.std.specs.Float.Ieee.{of_fields, of_int}
use Rattle.measure.specs.declared.Measured.TheVariants as measured
use Rattle.measure.specs.declared.Reading.{Reading}
use Rattle.measure.specs.declared.Reading.TheVariants.{Good, Held, Invalid}
use Rattle.measure_front.specs.declared.Front.{Front}
use Rattle.measure_front.specs.declared.Quality.{Quality}
use Rattle.measure_front.specs.declared.Quality.TheVariants as quality
use Rattle.measure.specs.Fields.{fractions, minus_of, exponent_of, number_fraction}
use Rattle.measure.specs.Readings.{measured_of}

-- a number handed over with a quality; an Invalid reading has none
abbrev pub handed : Quality → Float → Reading
handed quality.Good x = Good x
handed quality.Held x = Held x
handed quality.Invalid x = Invalid

-- the reading with this quality, sign, exponent and that fraction, the number being IEEE 754's own
unfoldable pub reading_of : Front → ℕ → Reading
reading_of f t = handed f.quality (of_fields binary32 f.minus f.exponent t)

-- "in a step that gets no fraction and answers missing exactly where every fraction would"
unfoldable pub EveryFractionMissing : ℕ → Front → Type 0
EveryFractionMissing limit f = (t : ℕ) → t < fractions → measured_of limit (reading_of f t) ≡ measured.Missing

-- ---- a reading taken apart

unfoldable pub number_front : Quality → Float → Front
number_front q x = record { quality = q; minus = minus_of x; exponent = exponent_of x }

unfoldable pub front_of : Reading → Front
front_of (Good x) = number_front quality.Good x
front_of (Held x) = number_front quality.Held x
front_of Invalid = record { quality = quality.Invalid; minus = false; exponent = 0 }

-- the fraction that comes after it
unfoldable pub fraction_of : Reading → ℕ
fraction_of (Good x) = number_fraction x
fraction_of (Held x) = number_fraction x
fraction_of Invalid = 0

-- ---- what the functions of the first step say to each other

unfoldable pub has_number : Quality → Bool
has_number quality.Good = true
has_number quality.Held = true
has_number quality.Invalid = false

-- the exponent in which the limit lies
unfoldable pub top_exponent : ℕ → ℕ
top_exponent limit = exponent_of (of_int binary32 (pos limit))
