-- What worked lists compute with, under one name: the definitions of this crate, and what is below them.
use Rattle.command_manual.proofs.Opened as of-command-manual
use Rattle.command_pairs.specs.Pairs.{pair_of, heard_of}

unfoldable pub opened : Unit {0}
unfolding pair_of heard_of of-command-manual.opened
opened = tt
