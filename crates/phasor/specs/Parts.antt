-- A part in the order of work of ticket 4 of 02. Definitions only.
use Rattle.std.specs.Prelude.{ℕ, ◌<◌, ◌≡◌, Bool, true, false, Option, None, Some, ℤ, Float}
use Rattle.std.specs.Float.{binary32}
use Rattle.std.specs.Float.Ieee.{of_fields, neg}
use Rattle.measure.specs.Fields.{fractions}
use Rattle.measure.specs.Readings.{limit_of}
use Rattle.measure.specs.declared.Channel.{Channel}
use Rattle.measure_front.specs.declared.Passed.{Passed}
use Rattle.phasor.specs.Pairs.{with_sign, part_of}

-- "answers missing exactly where every fraction would", of a part, which is a reading too
unfoldable pub EveryFractionOut : ℕ → Bool → ℕ → Type 0
EveryFractionOut limit minus exponent = (t : ℕ) → t < fractions → part_of limit (of_fields binary32 minus exponent t) ≡ None

-- "in the range −200 to 200 V or −40k to 40k A" (ticket 3), so whichever sign it has; what passed is a number without its sign
unfoldable pub PartJudges : Channel → ℕ → Option Passed → Type 0
PartJudges c exponent None = (minus : Bool) → EveryFractionOut (limit_of c) minus exponent
PartJudges c exponent (Some p) =
    ((minus : Bool) → EveryFractionOut (limit_of c) minus exponent → ⊥) × (p ≡ record { channel = c; minus = false; exponent = exponent })

-- ---- what the functions say to each other

-- a number without the sign that it has
unfoldable pub magnitude_of : Bool → Float → Float
magnitude_of true x = neg x
magnitude_of false x = x

-- a converted magnitude with a sign
unfoldable pub signed_of : Bool → Option ℕ → Option ℤ
signed_of s None = None
signed_of s (Some n) = Some (with_sign s n)
