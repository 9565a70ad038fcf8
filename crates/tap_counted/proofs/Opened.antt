-- What worked lists compute with, under one name: the definitions of this crate, and what is below them.
use Rattle.ways.proofs.Opened as of-ways
use Rattle.tap_counted.specs.Counted.{up_of, down_of, step_of, moved_of, counted_of}

unfoldable pub opened : Unit {0}
unfolding up_of down_of step_of moved_of counted_of of-ways.opened
opened = tt
