-- What worked lists compute with, under one name: the definitions of this crate, and what is below them.
use Rattle.measure.proofs.Opened as of-measure
use Rattle.input.specs.Brought.{readings_of}

unfoldable pub opened : Unit {0}
unfolding readings_of of-measure.opened
opened = tt
