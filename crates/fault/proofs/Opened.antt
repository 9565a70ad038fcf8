-- What worked lists compute with, under one name: the definitions of this crate, and what is below them.
use Rattle.common.proofs.Opened as of-common
use Rattle.fault.specs.Latches.{reset_of, later_of, age_of, latched_of}

unfoldable pub opened : Unit {0}
unfolding reset_of later_of age_of latched_of of-common.opened
opened = tt
