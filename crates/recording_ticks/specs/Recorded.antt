-- One tick of a recording, by its bytes. Definitions only.
use Rattle.std.specs.Prelude.{ℕ, zero, suc, ◌+◌, ◌*◌, List, Option, None, Some, Result, Ok, Err, ltb, leb, length, get_or}
use Rattle.common.specs.Choice.{choose}
use Rattle.measure.specs.declared.Reading.{Reading}
use Rattle.phasor.specs.declared.Phasor.{Phasor}
use Rattle.phasor.specs.declared.Phasors.{Phasors}
use Rattle.input.specs.declared.Input.{Input}
use Rattle.quality.specs.Quality.{reading_by}
use Rattle.recording_numbers.specs.Numbers.{number_bytes, number_at, float_at}
use Rattle.recording_ticks.specs.declared.DecodeError.{DecodeError}
use Rattle.recording_ticks.specs.declared.DecodeError.TheVariants.{BadQuality, CutShort}

-- "the twelve readings": the six of 01, and from the seventh on, by 02, ticket 3, two for each pair
abbrev pub readings : ℕ
readings = 12

abbrev pub paired_from : ℕ
paired_from = 6

-- the highest quality byte: "2 Invalid"
abbrev pub invalid : ℕ
invalid = 2

-- bytes of a reading: "a quality byte and four float bytes"
abbrev pub reading_bytes : ℕ
reading_bytes = 1 + number_bytes

-- where the contacts stand, after the readings
abbrev pub contacts_at : ℕ
contacts_at = readings * reading_bytes

abbrev pub bcd_at : ℕ
bcd_at = contacts_at + number_bytes

abbrev pub sensor_at : ℕ
sensor_at = bcd_at + 1

-- bytes of a tick
abbrev pub tick_bytes : ℕ
tick_bytes = sensor_at + 1

-- a reading: "each a quality byte and four float bytes"
unfoldable pub reading_at : List ℕ → ℕ → Reading
reading_at s at = reading_by (get_or s at 0) (float_at s (at + 1))

-- the ith reading of the tick that starts at a place
abbrev pub nth_reading : List ℕ → ℕ → ℕ → Reading
nth_reading s at i = reading_at s (at + reading_bytes * i)

-- 02, ticket 3: "a pair, real and imaginary part": the ith reading and the next
unfoldable pub phasor_at : List ℕ → ℕ → ℕ → Phasor
phasor_at s at i = record { re = nth_reading s at i; im = nth_reading s at (i + 1) }

-- "Each tick also brings U_AB, I_bus and I_coupler as a pair"
unfoldable pub phasors_at : List ℕ → ℕ → Phasors
phasors_at s at =
    record {
      u_ab = phasor_at s at paired_from;
      i_bus = phasor_at s at (paired_from + 2);
      i_coupler = phasor_at s at (paired_from + 4);
    }

-- "the twelve readings in the order of their introduction" (U_AB, 3U0, U2, I_high, I_bus, I_coupler; the parts of U_AB, I_bus, I_coupler);
-- "four contact bytes, least first; the BCD byte; the sensor byte"
unfoldable pub input_at : List ℕ → ℕ → Input
input_at s at =
    record {
      u_ab = nth_reading s at 0;
      u0 = nth_reading s at 1;
      u2 = nth_reading s at 2;
      i_high = nth_reading s at 3;
      i_bus = nth_reading s at 4;
      i_coupler = nth_reading s at 5;
      phasors = phasors_at s at;
      contacts = number_at s (at + contacts_at);
      bcd = get_or s (at + bcd_at) 0;
      sensor = get_or s (at + sensor_at) 0;
    }

-- the place of the first quality byte above 2 among those of n readings from the ith on, if there is one
unfoldable pub bad_from : List ℕ → ℕ → ℕ → ℕ → Option ℕ
bad_from s at zero i = None
bad_from s at (suc n) i = choose (ltb invalid (get_or s (at + reading_bytes * i) 0)) (Some (reading_bytes * i)) (bad_from s at n (suc i))

unfoldable pub bad_place : List ℕ → ℕ → Option ℕ
bad_place s at = bad_from s at readings 0

-- the tick at a place, by the place of its first bad quality byte
unfoldable pub tick_but_for : List ℕ → ℕ → Option ℕ → Result Input DecodeError
tick_but_for s at (Some p) = Err (BadQuality p (get_or s (at + p) 0))
tick_but_for s at None = Ok (input_at s at)

-- "each 66 bytes"; "a quality byte above 2, or a last tick that is cut short"
unfoldable pub decoded_of : List ℕ → ℕ → Result Input DecodeError
decoded_of s at = choose (leb (at + tick_bytes) (length s)) (tick_but_for s at (bad_place s at)) (Err CutShort)
