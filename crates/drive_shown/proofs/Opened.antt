-- What worked lists compute with, under one name: the definitions of this crate, and what is below them.
use Rattle.ways.proofs.Opened as of-ways
use Rattle.drive_shown.specs.Shown.{on_of}

unfoldable pub opened : Unit {0}
unfolding on_of of-ways.opened
opened = tt
