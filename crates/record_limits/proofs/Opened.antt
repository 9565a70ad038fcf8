-- What worked lists compute with, under one name: the definitions of this crate, and what is below them.
use Rattle.sheet.proofs.Opened as of-sheet
use Rattle.organ_limits.proofs.Opened as of-organ-limits
use Rattle.drive_hold.proofs.Opened as of-drive-hold
use Rattle.fault.proofs.Opened as of-fault
use Rattle.record_limits.specs.Limits.{ticks_of, delays_of, kind_within, motion_within, press_within, counts_within, within_of}

unfoldable pub opened : Unit {0}
unfolding ticks_of delays_of kind_within motion_within press_within counts_within within_of of-sheet.opened of-organ-limits.opened of-drive-hold.opened of-fault.opened
opened = tt
