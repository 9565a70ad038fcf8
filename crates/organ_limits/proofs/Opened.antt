-- What worked lists compute with, under one name: the definitions of this crate, and what is below them.
use Rattle.organ.proofs.Opened as of-organ
use Rattle.organ_limits.specs.Limits.{organ_within, organs_within}

unfoldable pub opened : Unit {0}
unfolding organ_within organs_within of-organ.opened
opened = tt
