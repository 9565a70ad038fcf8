-- What the rules give on a tick, one by one: the values in between, by the record, the contacts and what is there.
-- Assumes nothing.
use Rattle.input.specs.declared.Contacts.{Contacts}
use Rattle.blocks.specs.declared.Blocks.{Blocks}
use Rattle.record.specs.declared.Regulator.{Regulator}
use Rattle.sensing.specs.declared.Sensed.{Sensed}
use Rattle.rules.specs.Acting.{finding_of}
use Rattle.rules.specs.Ticks.{memory_in}
use Rattle.acting_accounting.specs.declared.Accounted.{Accounted}
use Rattle.acting_accounting.specs.Accounting.{accounted_of}
use Rattle.acting_judging.specs.Judging.{blocked_of}
use Rattle.acting_commanding.specs.declared.Noted.{Noted}
use Rattle.acting_commanding.specs.declared.Regulated.{Regulated}
use Rattle.acting_commanding.specs.Commanding.{noted_of, regulated_of}
use Rattle.acting_supervising.specs.declared.Supervised.{Supervised}
use Rattle.acting_supervising.specs.Supervising.{supervised_of}

-- rules 2 and 7: the drive and its faults
abbrev pub supervised_in : Regulator → Contacts → Sensed → Supervised
supervised_in r c x = supervised_of r.settings c (finding_of x) r.state.drive r.state.latch r.state.wear.last

-- rule 8: the blocks
abbrev pub blocked_in : Regulator → Contacts → Sensed → Supervised → Blocks
blocked_in r c x v = blocked_of r.settings c v.latch.fault (finding_of x)

-- rule 9: what it finds, the command and its delay
abbrev pub noted_in : Regulator → Contacts → Sensed → Noted
noted_in r c x = noted_of c x.assessed (memory_in r) r.state.drive

abbrev pub regulated_in : Regulator → Contacts → Sensed → Supervised → Regulated
regulated_in r c x v =
    regulated_of r.settings c x.assessed (blocked_in r c x v) (memory_in r) r.state.drive v.drive v.latch.fault

-- rule 7, at tick end: what an ended move leaves
abbrev pub accounted_in : Regulator → Supervised → Accounted
accounted_in r v = accounted_of r.settings v.ended v.operation r.state.wear
