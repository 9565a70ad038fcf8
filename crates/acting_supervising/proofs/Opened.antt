-- What worked lists compute with, under one name: the definitions of this crate, and what is below them.
use Rattle.tap_sliding.proofs.Opened as of-tap-sliding
use Rattle.drive_hold.proofs.Opened as of-drive-hold
use Rattle.acting_judging.proofs.Opened as of-acting-judging
use Rattle.acting_supervising.specs.Supervising.{contact_of, holding_of, cleared_of, followed_of, supervised_of}

unfoldable pub opened : Unit {0}
unfolding contact_of holding_of cleared_of followed_of supervised_of of-tap-sliding.opened of-drive-hold.opened of-acting-judging.opened
opened = tt
