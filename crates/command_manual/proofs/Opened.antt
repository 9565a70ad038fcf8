-- What worked lists compute with, under one name: the definitions of this crate, and what is below them.
use Rattle.blocks.proofs.Opened as of_blocks
use Rattle.command_manual.specs.Manual.{pressed_of, sought_of, granted_of, manual_of, remembered_of}

unfoldable pub opened : Unit {0}
unfolding pressed_of sought_of granted_of manual_of remembered_of of_blocks.opened
opened = tt
