-- A reading by the number of its quality. Definitions only.
use Rattle.std.specs.Prelude.{ℕ, eqb, Float}
use Rattle.common.specs.Choice.{choose}
use Rattle.measure.specs.declared.Reading.{Reading}
use Rattle.measure.specs.declared.Reading.TheVariants.{Good, Held, Invalid}

-- "a quality byte (0 Good, 1 Held, 2 Invalid)"; in a host's reading any other number is Invalid too
unfoldable pub reading_by : ℕ → Float → Reading
reading_by q x = choose (eqb q 0) (Good x) (choose (eqb q 1) (Held x) Invalid)
