-- What worked lists compute with, under one name: the definitions of this crate, and what is below them.
use Rattle.sheet.proofs.Opened as of-sheet
use Rattle.busbar_current.proofs.Opened as of-busbar-current
use Rattle.busbar_compensation.specs.Voltage.{drop_of, is_rating, is_rated, voltage_drop, voltage_of}

unfoldable pub opened : Unit {0}
unfolding drop_of is_rating is_rated voltage_drop voltage_of of-sheet.opened of-busbar-current.opened
opened = tt
