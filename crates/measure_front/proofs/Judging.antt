-- The first step's answer, and what the two steps come to for a reading.
-- Assumes nothing.
use mathlib.Core.Path.{◌≡◌, refl, sym, ap, ◌∙◌, subst}
use lib.Ieee.{Float, of_bits, to_bits}
use Rattle.std.specs.Prelude.{Option, None, Some}
use Rattle.measure.specs.Fields.{minus_of, exponent_of}
use Rattle.measure.specs.Readings.{limit_of, number_of, measured_of}
use Rattle.measure.specs.declared.Channel.{Channel}
use Rattle.measure.specs.declared.Measured.{Measured}
use Rattle.measure.specs.declared.Measured.TheVariants as measured
use Rattle.measure.specs.declared.Reading.{Reading}
use Rattle.measure.specs.declared.Reading.TheVariants.{Good, Held, Invalid}
use Rattle.measure_front.specs.Fronts.{reading_of, EveryFractionMissing, number_front, front_of, fraction_of}
use Rattle.measure_front.specs.Judging.{Judges, JudgedBy}
use Rattle.measure_front.specs.declared.Front.{Front}
use Rattle.measure_front.specs.declared.Passed.{Passed}
use Rattle.measure_front.proofs.Fronts.{fraction_lt}

-- what was let pass
module _ (c : Channel) (f : Front) (j : Option Passed) (p : Passed) (told : Judges c f j) (is : j ≡ Some p) where
  held : p ≡ record { channel = c; minus = f.minus; exponent = f.exponent }
  unfolding Judges
  held = (subst (Judges c f) is told).1

  pub channel_is : p.channel ≡ c
  channel_is = ap (λ (q : Passed). q.channel) held

  pub minus_is : p.minus ≡ f.minus
  minus_is = ap (λ (q : Passed). q.minus) held

  pub exponent_is : p.exponent ≡ f.exponent
  exponent_is = ap (λ (q : Passed). q.exponent) held

-- a reading's number has the sign and exponent of its front
own_front : (r : Reading) → ((front_of r).minus ≡ minus_of (number_of r)) × ((front_of r).exponent ≡ exponent_of (number_of r))
unfolding front_of number_front number_of of_bits to_bits
own_front (Good x) = (refl, refl)
own_front (Held x) = (refl, refl)
own_front Invalid = (refl, refl)

-- so the second step's promise stands for the number of the reading that passed
pub own_number : (c : Channel) (r : Reading) (f : Front) (j : Option Passed) (p : Passed) (x : Float) → f ≡ front_of r → Judges c f j → j ≡ Some p → x ≡ number_of r
    → JudgedBy p x
unfolding JudgedBy
own_number c r f j p x front told is number =
    let o = own_front r in (
      minus_is c f j p told is ∙ ap (λ (g : Front). g.minus) front ∙ o.0 ∙ ap minus_of (sym number),
      exponent_is c f j p told is ∙ ap (λ (g : Front). g.exponent) front ∙ o.1 ∙ ap exponent_of (sym number),
    )

-- a reading that the first step stops: its own fraction is one of those that are missing
pub stopped : (c : Channel) (r : Reading) (f : Front) (j : Option Passed) (m : Measured) → reading_of f (fraction_of r) ≡ r → Judges c f j → j ≡ None → m ≡ measured.Missing
    → m ≡ measured_of (limit_of c) r
unfolding Judges EveryFractionMissing
stopped c r f j m whole told e is = is ∙ sym (subst (Judges c f) e told (fraction_of r) (fraction_lt r)) ∙ ap (measured_of (limit_of c)) whole
