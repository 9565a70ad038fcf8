-- The parts of a rule make it: each law is over plain values, as the function has them, and `search` finds it.
-- Assumes nothing.
use mathlib.Core.Path.{◌≡◌, refl}
use mathlib.Core.Bool.{Bool, ◌&&◌, ◌||◌}
use mathlib.Core.List.{List}
use Prim.Native.Nat.{ℕ}
use Rattle.input.specs.declared.Contacts.{Contacts}
use Rattle.std.specs.Prelude.{Option}
use Rattle.ways.specs.declared.Direction.{Direction}
use Rattle.keys.specs.declared.Keys.{Keys}
use Rattle.drive.specs.declared.Drive.{Drive}
use Rattle.drive_follow.specs.Follow.{rests_of}
use Rattle.fault.specs.declared.Fault.{Fault}
use Rattle.fault.specs.Latches.{is_fault}
use Rattle.blocks.specs.declared.Blocks.{Blocks}
use Rattle.command.specs.declared.Heard.{Heard}
use Rattle.command.specs.declared.Decided.{Decided}
use Rattle.command.specs.declared.Memory.{Memory}
use Rattle.command.specs.declared.Situation.{Situation}
use Rattle.command.specs.declared.Wait.{Wait}
use Rattle.command_deciding.specs.Deciding.{decided_of}
use Rattle.command_manual.specs.Manual.{remembered_of}
use Rattle.command_pairs.specs.Pairs.{heard_of}
use Rattle.sensing_assessing.specs.declared.Assessed.{Assessed}
use Rattle.acting_commanding.specs.declared.Noted.{Noted}
use Rattle.acting_commanding.specs.declared.Regulated.{Regulated}
use Rattle.busbar_level.specs.declared.Level.{Level}
use Rattle.busbar_level.specs.Levels.{side_of, is_in_band}
use Rattle.acting_commanding.specs.Commanding.{ask_of, noted_of, situated_of, situation_of, decision_of, drops_of, kept_press_of, memory_of, regulated_of}

-- what the rule finds
module _ (level : Option Level) (far : Bool) (now before : Keys) (press : Option Direction) (was : Drive) where
  pub note_made : {side : Option Direction} {heard : Heard} {rested : Bool} → side ≡ side_of level → heard ≡ heard_of now before press → rested ≡ rests_of was
      → ◌≡◌ {A = Noted} (record { side = side; far = far; heard = heard; rested = rested })
      (record { side = side_of level; far = far; heard = heard_of now before press; rested = rests_of was })
  note_made p q u = rw (p, q, u)

-- what it goes by
module _ (s : List ℕ) (rested automatic far : Bool) (side repeat : Option Direction) (b : Blocks) (wait : Option Wait) (heard : Heard) where
  abbrev situation : Bool → Situation
  situation resting =
      record {
        resting = resting;
        automatic = automatic;
        side = side;
        far = far;
        blocks = b;
        wait = wait;
        repeat = repeat;
        heard = heard;
      }

  pub decide_made : (d : Drive) {r : Decided} {rests : Bool} → rests ≡ rests_of d → r ≡ decided_of s (situation (rested && rests))
      → r ≡ decided_of s (situation (rested && rests_of d))
  decide_made d p q = rw (← p) q

-- what drops a press
pub drops_made : (c : Contacts) (f : Option Fault) {fault : Bool} → fault ≡ is_fault f → (fault || c.automatic || c.local_drive) ≡ drops_of c f
unfolding drops_of
drops_made c f p = rw p

-- what it keeps
module _ (c : Contacts) (f : Option Fault) (n : Noted) (wait : Option Wait) (keys : Keys) where
  pub keep_made : {again repeat remembered : Option Direction} {dropped : Bool} → again ≡ repeat → dropped ≡ drops_of c f
      → remembered ≡ remembered_of n.rested dropped n.heard
      → ◌≡◌ {A = Memory} (record { wait = wait; repeat = again; keys = keys; remembered = remembered })
      (record { wait = wait; repeat = repeat; keys = keys; remembered = kept_press_of c f n })
  unfolding kept_press_of
  keep_made p q u = rw (u, q, p)

-- rule 9
module _ (s : List ℕ) (c : Contacts) (a : Assessed) (b : Blocks) (m : Memory) (was d : Drive) (f : Option Fault) where
  pub regulate_made : {n : Noted} {decided : Decided} {band : Bool} {memory : Memory} {drive : Drive}
      → n ≡ noted_of c a m was
      → decided ≡ decided_of s (situated_of c b m n d)
      → band ≡ is_in_band a.level
      → memory ≡ memory_of c band f m n decided
      → drive ≡ ask_of d c.automatic decided.command
      → ◌≡◌ {A = Regulated} (record { drive = drive; memory = memory }) (regulated_of s c a b m was d f)
  unfolding regulated_of decision_of situation_of
  regulate_made p q u v w = rw (v, w, u, q, p) refl
