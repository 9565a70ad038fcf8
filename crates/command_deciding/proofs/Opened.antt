-- What worked lists compute with, under one name: the definitions of this crate, and what is below them.
use Rattle.command_automatic.proofs.Opened as of-command-automatic
use Rattle.command_manual.proofs.Opened as of-command-manual
use Rattle.command_deciding.specs.Deciding.{decided_of}

unfoldable pub opened : Unit {0}
unfolding decided_of of-command-automatic.opened of-command-manual.opened
opened = tt
