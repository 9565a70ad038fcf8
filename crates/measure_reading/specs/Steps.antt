-- What the functions say to each other. Definitions only.
use Rattle.std.specs.Prelude.{ℕ, Option, None, Some}
use Rattle.measure.specs.declared.Measured.{Measured}
use Rattle.measure.specs.declared.Measured.TheVariants as measured
use Rattle.measure_front.specs.declared.Quality.{Quality}
use Rattle.measure_front.specs.declared.Quality.TheVariants as quality

unfoldable pub with_quality : Quality → ℕ → Measured
with_quality quality.Good n = measured.Good n
with_quality quality.Held n = measured.Held n
with_quality quality.Invalid n = measured.Missing

unfoldable pub counted_of : Quality → Option ℕ → Measured
counted_of q None = measured.Missing
counted_of q (Some n) = with_quality q n
