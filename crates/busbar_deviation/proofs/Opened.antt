-- What worked lists compute with, under one name: the definitions of this crate, and what is below them.
use Rattle.busbar_level.proofs.Opened as of-busbar-level
use Rattle.busbar_deviation.specs.Deviation.{supply_of, low_of, high_of, band_of, level_of, far_above}

unfoldable pub opened : Unit {0}
unfolding supply_of low_of high_of band_of level_of far_above of-busbar-level.opened
opened = tt
