-- What worked lists compute with, under one name: the definitions of this crate, and what is below them.
use Rattle.tap_counted.proofs.Opened as of-tap-counted
use Rattle.acting_accounting.specs.Accounting.{one_more_of, operations_of, accounted_of}

unfoldable pub opened : Unit {0}
unfolding one_more_of operations_of accounted_of of-tap-counted.opened
opened = tt
