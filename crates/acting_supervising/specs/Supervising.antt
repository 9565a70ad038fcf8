-- Rules 2 and 7 of 01, and 02, ticket 2, for either kind of drive. Definitions only.
use Rattle.std.specs.Prelude.{ℕ, List, Option}
use Rattle.common.specs.Choice.{choose}
use Rattle.slots.specs.Slots.{slot, t4, t5, t6, t8, is_continuous}
use Rattle.input.specs.declared.Contacts.{Contacts}
use Rattle.drive.specs.declared.Drive.{Drive}
use Rattle.fault.specs.declared.Latch.{Latch}
use Rattle.ways.specs.declared.Direction.{Direction}
use Rattle.drive_follow.specs.declared.Contact.{Contact}
use Rattle.drive_follow.specs.declared.Followed.{Followed}
use Rattle.drive_follow.specs.Follow.{follow_of}
use Rattle.drive_hold.specs.declared.Holding.{Holding}
use Rattle.drive_hold.specs.Hold.{hold_of}
use Rattle.fault.specs.Latches.{is_fault, reset_of, latched_of}
use Rattle.tap_sliding.specs.Sliding.{sliding_of}
use Rattle.acting_judging.specs.declared.Finding.{Finding}
use Rattle.acting_supervising.specs.declared.Supervised.{Supervised}
use Rattle.busbar_level.specs.Levels.{side_of, is_in_band}
use Rattle.acting_judging.specs.Judging.{blocked_of}

-- what a drive with a switching contact goes by: bit 15 local drive, bit 1 the switching contact, the latch after reset, the tap of rule 4
unfoldable pub contact_of : List ℕ → Contacts → ℕ → Latch → Option Direction → Contact
contact_of s c tap l last =
    record {
      local = c.local_drive;
      closed = c.switching;
      faulty = is_fault l.fault;
      sliding = sliding_of s tap;
      last = last;
      t4 = slot s t4;
      t5 = slot s t5;
      t6 = slot s t6;
    }

-- rule 2
unfoldable pub cleared_of : Contacts → Latch → Latch
cleared_of c l = reset_of l c.reset

-- what a drive without one goes by: "that tick included and its new fault left aside", so rule 8's blocks are those of the latch after
-- reset
unfoldable pub holding_of : List ℕ → Contacts → Finding → Latch → Holding
holding_of s c x l =
    record {
      local = c.local_drive;
      automatic = c.automatic;
      in_band = is_in_band x.level;
      side = side_of x.level;
      blocks = blocked_of s c l.fault x;
      t4 = slot s t4;
    }

-- rule 7, by the kind of drive; the latch is the one after reset
unfoldable pub followed_of : List ℕ → Contacts → Finding → Drive → Latch → Option Direction → Followed
followed_of s c x d l last = choose (is_continuous s) (hold_of d (holding_of s c x l)) (follow_of d (contact_of s c x.tap l last))

unfoldable pub supervised_of : List ℕ → Contacts → Finding → Drive → Latch → Option Direction → Supervised
supervised_of s c x d l last =
    record {
      drive = (followed_of s c x d (cleared_of c l) last).drive;
      ended = (followed_of s c x d (cleared_of c l) last).ended;
      operation = (followed_of s c x d (cleared_of c l) last).operation;
      latch = latched_of (cleared_of c l) (followed_of s c x d (cleared_of c l) last).fault (slot s t8);
      before = (cleared_of c l).age;
    }
