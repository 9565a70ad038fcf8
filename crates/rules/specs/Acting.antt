-- Rules 2 and 7 to 9 of 01: what is done. Definitions only.
use Rattle.tap_position.specs.Positions.{tap_of}
use Rattle.std.specs.Prelude.{ℕ, List}
use Rattle.input.specs.declared.Contacts.{Contacts}
use Rattle.drive.specs.declared.Drive.{Drive}
use Rattle.fault.specs.declared.Latch.{Latch}
use Rattle.blocks.specs.declared.Blocks.{Blocks}
use Rattle.command.specs.declared.Memory.{Memory}
use Rattle.sensing.specs.declared.Sensed.{Sensed}
use Rattle.acting_judging.specs.declared.Finding.{Finding}
use Rattle.acting_judging.specs.Judging.{blocked_of}
use Rattle.acting_supervising.specs.declared.Supervised.{Supervised}
use Rattle.acting_supervising.specs.Supervising.{supervised_of}
use Rattle.acting_commanding.specs.Commanding.{regulated_of}
use Rattle.acting_accounting.specs.declared.Wear.{Wear}
use Rattle.acting_accounting.specs.Accounting.{accounted_of}
use Rattle.rules.specs.declared.Acted.{Acted}

-- what rules 7 and 8 go by of the rules before
abbrev pub finding_of : Sensed → Finding
finding_of x = record { section = x.observed.section; level = x.assessed.level; trips = x.organs.trips; tap = tap_of x.observed.position }

-- rules 2 and 7 have given v; rule 8, the blocks, which are b; rule 9, the command and its delay; rule 7, at tick end: what an ended move leaves
abbrev pub acted_from : List ℕ → Contacts → Sensed → Drive → Memory → Wear → Supervised → Blocks → Acted
acted_from s c x d m w v b =
    record {
      supervised = v;
      blocks = b;
      regulated = regulated_of s c x.assessed b m d v.drive v.latch.fault;
      accounted = accounted_of s v.ended v.operation w;
    }

-- with the drive d, its latch l, rule 9's memory m and the wear w of the record
unfoldable pub acted_of : List ℕ → Contacts → Sensed → Drive → Latch → Memory → Wear → Acted
acted_of s c x d l m w =
    acted_from s c x d m w (supervised_of s c (finding_of x) d l w.last)
    (blocked_of s c (supervised_of s c (finding_of x) d l w.last).latch.fault (finding_of x))
