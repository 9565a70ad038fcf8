-- What worked lists compute with, under one name: the definitions of this crate, and what is below them.
use Rattle.sensing_observing.proofs.Opened as of-sensing-observing
use Rattle.sensing_protecting.proofs.Opened as of-sensing-protecting
use Rattle.sensing_assessing.proofs.Opened as of-sensing-assessing
use Rattle.sensing.specs.Sensing.{sensed_of}

unfoldable pub opened : Unit {0}
unfolding sensed_of of-sensing-observing.opened of-sensing-protecting.opened of-sensing-assessing.opened
opened = tt
