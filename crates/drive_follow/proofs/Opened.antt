-- What worked lists compute with, under one name: the definitions of this crate, and what is below them.
use Rattle.fault.proofs.Opened as of-fault
use Rattle.drive_shown.proofs.Opened as of-drive-shown
use Rattle.drive_follow.specs.Follow.{own_of, rest_of, asked_of, moving_of, supervised_of, follow_of, within_of}

unfoldable pub opened : Unit {0}
unfolding own_of rest_of asked_of moving_of supervised_of follow_of within_of of-fault.opened of-drive-shown.opened
opened = tt
