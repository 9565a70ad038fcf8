-- What worked lists compute with, under one name: the definitions of this crate, and what is below them.
use Rattle.common.proofs.Opened as of-common
use Rattle.organ.specs.Organs.{organ_of, trip_of}
use Rattle.organ.specs.Runs.{run_of}

unfoldable pub opened : Unit {0}
unfolding organ_of trip_of run_of of-common.opened
opened = tt
