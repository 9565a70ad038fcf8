-- What worked lists compute with, under one name: the definitions of this crate, and what is below them.
use Rattle.common.proofs.Opened as of-common
use Rattle.measure.proofs.Opened as of-measure
use Rattle.busbar_current.specs.Current.{good_of, both, picked_of, current_of}

unfoldable pub opened : Unit {0}
unfolding good_of both picked_of current_of of-common.opened of-measure.opened
opened = tt
