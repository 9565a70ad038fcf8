-- What a reading counts as, by what its two steps come to.
-- Assumes nothing.
use mathlib.Core.Path.{◌≡◌, refl, ◌∙◌}
use Prim.Native.Nat.{ℕ, ◌*◌}
use lib.Ieee.{Float, binary32, of_bits}
use borrow.Author.Rules.{rules}
use Rattle.std.specs.Prelude.{Option, None, Some}
use Rattle.measure.specs.Readings.{limit_of, converted_of, good_of, held_of, number_of, measured_of, AtMost}
use Rattle.measure.proofs.Laws.{measured}
use Rattle.measure_front.specs.Fronts.{number_front, front_of}
use Rattle.measure_front.specs.Judging.{Judges, JudgedBy}
use Rattle.measure_front.proofs.Judging.{channel_is, own_number, stopped}
use Rattle.measure_reading.specs.Steps.{with_quality, counted_of}
use Rattle.measure.specs.declared.Channel.{Channel}
use Rattle.measure.specs.declared.Measured.{Measured}
use Rattle.measure.specs.declared.Measured.TheVariants as measured
use Rattle.measure.specs.declared.Reading.{Reading}
use Rattle.measure.specs.declared.Reading.TheVariants.{Good, Held, Invalid}
use Rattle.measure_front.specs.declared.Front.{Front}
use Rattle.measure_front.specs.declared.Passed.{Passed}
use Rattle.measure_front.specs.declared.Quality.{Quality}
use Rattle.measure_front.specs.declared.Quality.TheVariants as quality

-- a reading is its number, counted with its quality
whole_reading : (l : ℕ) (r : Reading) → counted_of (front_of r).quality (converted_of l (number_of r)) ≡ measured_of l r
unfolding front_of number_front number_of counted_of with_quality measured_of good_of held_of
whole_reading l (Good x) = go (converted_of l x)
  where
    go : (a : Option ℕ) → counted_of quality.Good a ≡ good_of a
    go None = refl
    go (Some n) = refl
whole_reading l (Held x) = go (converted_of l x)
  where
    go : (a : Option ℕ) → counted_of quality.Held a ≡ held_of a
    go None = refl
    go (Some n) = refl
whole_reading l Invalid = go (converted_of l (of_bits binary32 0))
  where
    go : (a : Option ℕ) → counted_of quality.Invalid a ≡ measured.Missing
    go None = refl
    go (Some n) = refl

-- of a reading that passes, what the second step makes of its number
pub settled : (c : Channel) (r : Reading) (f : Front) (j : Option Passed) (p : Passed) (q : Quality) (x : Float) (a : Option ℕ) (m : Measured) → f ≡ front_of r → Judges c f j
    → j ≡ Some p → q ≡ f.quality → x ≡ number_of r → (JudgedBy p x → a ≡ converted_of (limit_of p.channel) x) → m ≡ counted_of q a → m ≡ measured_of (limit_of c) r
settled c r f j p q x a m front told passed kind number promise is =
    let converted : a ≡ converted_of (limit_of p.channel) x = promise (own_number c r f j p x front told passed number) in
    is ∙ rw (kind, front, converted, number, channel_is c f j p told passed) (whole_reading (limit_of c) r)

-- and it is not above the channel's limit
pub within : (l : ℕ) (r : Reading) (m : Measured) → m ≡ measured_of l r → AtMost (1000 * l) m
within l r m e = (measured l r e).1

pub ruleset readings = (stopped, settled, rules)
