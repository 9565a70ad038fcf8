-- What worked lists compute with, under one name: the definitions of this crate, and what is below them.
use Rattle.fault.proofs.Opened as of-fault
use Rattle.blocks.proofs.Opened as of_blocks
use Rattle.busbar_level.proofs.Opened as of-busbar-level
use Rattle.acting_judging.specs.Judging.{blocked_of}

unfoldable pub opened : Unit {0}
unfolding blocked_of of-fault.opened of_blocks.opened of-busbar-level.opened
opened = tt
