-- What worked lists compute with, under one name: the definitions of this crate, and what is below them.
use Rattle.measure.proofs.Opened as of-measure
use Rattle.busbar_section.specs.Section.{section_of}

unfoldable pub opened : Unit {0}
unfolding section_of of-measure.opened
opened = tt
