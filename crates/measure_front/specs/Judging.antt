-- The first step's answer (02, ticket 4): "judge quality, sign and exponent first, in a step that gets no fraction and answers missing
-- exactly where every fraction would". Definitions only.
use Rattle.std.specs.Prelude.{◌≡◌, Option, None, Some, Float}
use Rattle.measure.specs.declared.Channel.{Channel}
use Rattle.measure.specs.Fields.{minus_of, exponent_of}
use Rattle.measure.specs.Readings.{limit_of}
use Rattle.measure_front.specs.declared.Front.{Front}
use Rattle.measure_front.specs.declared.Passed.{Passed}
use Rattle.measure_front.specs.Fronts.{EveryFractionMissing}

-- missing where every fraction would be, and nowhere else; what passed is held with the channel that it passed for
unfoldable pub Judges : Channel → Front → Option Passed → Type 0
Judges c f None = EveryFractionMissing (limit_of c) f
Judges c f (Some p) = (EveryFractionMissing (limit_of c) f → ⊥) × (p ≡ record { channel = c; minus = f.minus; exponent = f.exponent })

-- "touch the fraction, range test included, only for numbers that pass": this number's own sign and exponent have passed
unfoldable pub JudgedBy : Passed → Float → Type 0
JudgedBy p x = (p.minus ≡ minus_of x) × (p.exponent ≡ exponent_of x)
