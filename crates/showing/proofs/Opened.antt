-- What worked lists compute with, under one name: the definitions of this crate, and what is below them.
use Rattle.tap_position.proofs.Opened as of-tap-position
use Rattle.blocks.proofs.Opened as of_blocks
use Rattle.drive_follow.proofs.Opened as of-drive-follow
use Rattle.busbar_level.proofs.Opened as of-busbar-level
use Rattle.showing.specs.Showing.{counted_of, signals_of, fields_of, outputs_of}

unfoldable pub opened : Unit {0}
unfolding counted_of signals_of fields_of outputs_of of-tap-position.opened of_blocks.opened of-drive-follow.opened of-busbar-level.opened
opened = tt
