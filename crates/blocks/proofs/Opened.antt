-- What worked lists compute with, under one name: the definitions of this crate, and what is below them.
use Rattle.ways.proofs.Opened as of-ways
use Rattle.input.proofs.Opened as of-input
use Rattle.blocks.specs.Blocked.{end_of, organs_automatic_of, any_trip_of, tap_lost_of, blocks_of}

unfoldable pub opened : Unit {0}
unfolding end_of organs_automatic_of any_trip_of tap_lost_of blocks_of of-ways.opened of-input.opened
opened = tt
