-- What worked lists compute with, under one name: the definitions of this crate, and what is below them.
use Rattle.common.proofs.Opened as of-common
use Rattle.tap_position.specs.Positions.{ranged_of, bcd_of, position_of}

unfoldable pub opened : Unit {0}
unfolding ranged_of bcd_of position_of of-common.opened
opened = tt
