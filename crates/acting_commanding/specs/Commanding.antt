-- Rule 9 of 01, and 02, tickets 6 and 7. Definitions only.
use Rattle.std.specs.Prelude.{ℕ, Bool, ◌&&◌, ◌||◌, List, Option, None, Some}
use Rattle.input.specs.declared.Contacts.{Contacts}
use Rattle.drive.specs.declared.Drive.{Drive}
use Rattle.drive.specs.declared.Drive.TheVariants.{Asked}
use Rattle.ways.specs.declared.Direction.{Direction}
use Rattle.drive_follow.specs.Follow.{rests_of}
use Rattle.fault.specs.declared.Fault.{Fault}
use Rattle.fault.specs.Latches.{is_fault}
use Rattle.blocks.specs.declared.Blocks.{Blocks}
use Rattle.command.specs.declared.Heard.{Heard}
use Rattle.command.specs.declared.Decided.{Decided}
use Rattle.command.specs.declared.Memory.{Memory}
use Rattle.command.specs.declared.Situation.{Situation}
use Rattle.command_automatic.specs.Automatic.{repeat_of}
use Rattle.command_deciding.specs.Deciding.{decided_of}
use Rattle.command_manual.specs.Manual.{remembered_of}
use Rattle.command_pairs.specs.Pairs.{heard_of}
use Rattle.sensing_assessing.specs.declared.Assessed.{Assessed}
use Rattle.acting_commanding.specs.declared.Noted.{Noted}
use Rattle.acting_commanding.specs.declared.Regulated.{Regulated}
use Rattle.busbar_level.specs.Levels.{side_of, is_in_band}

-- a command that begins is asked, at age 0, in the mode of its tick
unfoldable pub ask_of : Drive → Bool → Option Direction → Drive
ask_of d automatic None = d
ask_of d automatic (Some e) = Asked e 0 automatic

-- the mode's pair of buttons, and the press that is still remembered
abbrev pub heard_in : Contacts → Memory → Heard
heard_in c m = heard_of c.keys m.keys m.remembered

-- what rule 9 finds on a tick that started with the drive `was`
abbrev pub noted_of : Contacts → Assessed → Memory → Drive → Noted
noted_of c a m was = record { side = side_of a.level; far = a.far; heard = heard_in c m; rested = rests_of was }

-- what rule 9 goes by; the drive "rested at tick start and still does"
abbrev pub situated_of : Contacts → Blocks → Memory → Noted → Drive → Situation
situated_of c b m n d =
    record {
      resting = n.rested && rests_of d;
      automatic = c.automatic;
      side = n.side;
      far = n.far;
      blocks = b;
      wait = m.wait;
      repeat = m.repeat;
      heard = n.heard;
    }

unfoldable pub situation_of : Contacts → Assessed → Blocks → Memory → Drive → Drive → Situation
situation_of c a b m was d = situated_of c b m (noted_of c a m was) d

unfoldable pub decision_of : List ℕ → Contacts → Assessed → Blocks → Memory → Drive → Drive → Decided
decision_of s c a b m was d = decided_of s (situation_of c a b m was d)

-- 02, ticket 6: "fault, automatic, local drive and out drop it", so that a press is remembered "in manual mode" alone; out is rule 1, whose
-- fresh record holds none
unfoldable pub drops_of : Contacts → Option Fault → Bool
drops_of c f = is_fault f || c.automatic || c.local_drive

-- the press that is remembered after the tick; f is the fault as rule 7 left it
unfoldable pub kept_press_of : Contacts → Option Fault → Noted → Option Direction
kept_press_of c f n = remembered_of n.rested (drops_of c f) n.heard

-- what rule 9 keeps for the next tick: the wait, the side for which T2 is in force, this tick's keys, and the press
abbrev pub memory_of : Contacts → Bool → Option Fault → Memory → Noted → Decided → Memory
memory_of c in_band f m n decided =
    record {
      wait = decided.wait;
      repeat = repeat_of c.automatic in_band n.side decided.command m.repeat;
      keys = c.keys;
      remembered = kept_press_of c f n;
    }

-- rule 9, with the drive as the tick started, and the drive and the fault as rule 7 left them
unfoldable pub regulated_of : List ℕ → Contacts → Assessed → Blocks → Memory → Drive → Drive → Option Fault → Regulated
regulated_of s c a b m was d f =
    record {
      drive = ask_of d c.automatic (decision_of s c a b m was d).command;
      memory = memory_of c (is_in_band a.level) f m (noted_of c a m was) (decision_of s c a b m was d);
    }
