-- What worked lists compute with, under one name: the definitions of this crate, and what is below them.
use Rattle.record_limits.proofs.Opened as of-record-limits
use Rattle.record_starting.specs.Starting.{fresh_of}

unfoldable pub opened : Unit {0}
unfolding fresh_of of-record-limits.opened
opened = tt
