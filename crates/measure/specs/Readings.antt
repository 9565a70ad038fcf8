-- What a reading counts as (01, 'What a tick brings'). Definitions only.
use Rattle.std.specs.Prelude.{ℕ, ◌*◌, ◌≤◌, Bool, true, false, Option, None, Some, Float}
use Rattle.std.specs.Float.{binary32}
use Rattle.std.specs.Float.Ieee.{of_bits}
use Rattle.measure.specs.declared.Channel.{Channel}
use Rattle.measure.specs.declared.Channel.TheVariants.{Voltage, Current1A, Current5A}
use Rattle.measure.specs.declared.Measured.{Measured}
use Rattle.measure.specs.declared.Measured.TheVariants as measured
use Rattle.measure.specs.declared.Reading.{Reading}
use Rattle.measure.specs.declared.Reading.TheVariants.{Good, Held, Invalid}
use Rattle.measure.specs.Exact.{in_range, thousandths}

-- "200 V or 40 × k A", where k is 1 for a 1 A module and 5 for a 5 A one
abbrev pub most_volts : ℕ
most_volts = 200

abbrev pub most_amperes : ℕ
most_amperes = 40

abbrev pub limit_of : Channel → ℕ
limit_of Voltage = most_volts
limit_of Current1A = most_amperes
limit_of Current5A = 5 * most_amperes

-- what is counted, where the number is in range
abbrev pub if_in_range : {A : Type 0} → Bool → A → Option A
if_in_range true n = Some n
if_in_range false n = None

-- "the range test still comes first and on the float itself" (02, ticket 1): a number in range counts as its nearest whole thousandth
abbrev pub converted_of : ℕ → Float → Option ℕ
converted_of limit x = if_in_range (in_range limit x) (thousandths x)

unfoldable pub good_of : Option ℕ → Measured
good_of None = measured.Missing
good_of (Some n) = measured.Good n

unfoldable pub held_of : Option ℕ → Measured
held_of None = measured.Missing
held_of (Some n) = measured.Held n

-- missing, as is Invalid; otherwise the number, Good or Held as it was handed over
unfoldable pub measured_of : ℕ → Reading → Measured
measured_of limit (Good x) = good_of (converted_of limit x)
measured_of limit (Held x) = held_of (converted_of limit x)
measured_of limit Invalid = measured.Missing

-- the number of a reading, and 0 of an Invalid one
unfoldable pub number_of : Reading → Float
number_of (Good x) = x
number_of (Held x) = x
number_of Invalid = of_bits binary32 0

-- a measured number is not above n
unfoldable pub AtMost : ℕ → Measured → Type 0
AtMost n (measured.Good m) = m ≤ n
AtMost n (measured.Held m) = m ≤ n
AtMost n measured.Missing = Unit
