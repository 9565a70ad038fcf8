-- What worked lists compute with, under one name: the definitions of this crate, and what is below them.
use Rattle.busbar_compensation.proofs.Opened as of-busbar-compensation
use Rattle.busbar_deviation.proofs.Opened as of-busbar-deviation
use Rattle.sensing_assessing.specs.Assessing.{u_of, assessed_of}

unfoldable pub opened : Unit {0}
unfolding u_of assessed_of of-busbar-compensation.opened of-busbar-deviation.opened
opened = tt
