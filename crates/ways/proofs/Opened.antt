-- What worked lists compute with, under one name: the definitions of this crate, and what is below them.
use Rattle.common.proofs.Opened as of-common
use Rattle.ways.specs.Ways.{newer_of}

unfoldable pub opened : Unit {0}
unfolding newer_of of-common.opened
opened = tt
