-- What worked lists compute with, under one name: the definitions of this crate, and what is below them.
use Rattle.ways.proofs.Opened as of-ways
use Rattle.busbar_level.specs.Levels.{side_of}

unfoldable pub opened : Unit {0}
unfolding side_of of-ways.opened
opened = tt
