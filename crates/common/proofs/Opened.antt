-- What worked lists compute with, under one name: the definitions of this crate.
use Rattle.common.specs.Choice.{choose}
use Rattle.common.specs.Places.{zip, every}

unfoldable pub opened : Unit {0}
unfolding choose zip every
opened = tt
