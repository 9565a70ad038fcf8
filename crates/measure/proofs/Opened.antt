-- What worked lists compute with, under one name: the definitions of this crate.
use Rattle.measure.specs.Readings.{good_of, held_of, measured_of}

unfoldable pub opened : Unit {0}
unfolding good_of held_of measured_of
opened = tt
