-- What worked lists compute with, under one name: the definitions of this crate, and what is below them.
use Rattle.record_starting.proofs.Opened as of-record-starting
use Rattle.sensing.proofs.Opened as of-sensing
use Rattle.acting_supervising.proofs.Opened as of-acting-supervising
use Rattle.acting_commanding.proofs.Opened as of-acting-commanding
use Rattle.acting_accounting.proofs.Opened as of-acting-accounting
use Rattle.showing.proofs.Opened as of-showing
use Rattle.rules.specs.Acting.{acted_of}
use Rattle.rules.specs.Ticks.{end_of, ran_of, is_out, out_of, refused_of, tick_of}

unfoldable pub opened : Unit {0}
unfolding acted_of end_of ran_of is_out out_of refused_of tick_of of-record-starting.opened of-sensing.opened of-acting-supervising.opened of-acting-commanding.opened of-acting-accounting.opened of-showing.opened
opened = tt
