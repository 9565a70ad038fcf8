-- What worked lists compute with, under one name: the definitions of this crate, and what is below them.
use Rattle.blocks.proofs.Opened as of_blocks
use Rattle.drive_follow.proofs.Opened as of-drive-follow
use Rattle.drive_hold.specs.Hold.{ends_of, automatic_of, manual_of, held_from, hold_of, within_of}

unfoldable pub opened : Unit {0}
unfolding ends_of automatic_of manual_of held_from hold_of within_of of_blocks.opened of-drive-follow.opened
opened = tt
