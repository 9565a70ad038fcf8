-- What worked lists compute with, under one name: the definitions of this crate, and what is below them.
use Rattle.input.proofs.Opened as of-input
use Rattle.busbar_section.proofs.Opened as of-busbar-section
use Rattle.tap_position.proofs.Opened as of-tap-position
use Rattle.sensing_observing.specs.Observing.{observed_of}

unfoldable pub opened : Unit {0}
unfolding observed_of of-input.opened of-busbar-section.opened of-tap-position.opened
opened = tt
