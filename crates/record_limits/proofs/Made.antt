-- The parts of a record's limits make them: each law is over plain values, as the function has them, and `search` finds it.
-- Assumes nothing.
use mathlib.Core.Path.{◌≡◌}
use mathlib.Core.Bool.{Bool, not, ◌&&◌, ◌||◌}
use mathlib.Core.List.{List}
use Prim.Native.Nat.{ℕ}
use lib.Dec.{leb, eqb}
use Rattle.slots.specs.Slots.{slot, t8, n_l, n_r}
use Rattle.sheet.specs.Sheet.{passes_of}
use Rattle.std.specs.Prelude.{Option}
use Rattle.ways.specs.declared.Direction.{Direction}
use Rattle.ways.specs.Ways.{raises, lowers}
use Rattle.organ.specs.declared.Organ.{Organ}
use Rattle.organ_limits.specs.Limits.{organs_within}
use Rattle.drive.specs.declared.Drive.{Drive}
use Rattle.drive_follow.specs.Follow.{rests_of}
use Rattle.fault.specs.declared.Fault.{Fault}
use Rattle.fault.specs.declared.Latch.{Latch}
use Rattle.fault.specs.Latches.{is_fault, latch_within}
use Rattle.command.specs.declared.Wait.{Wait}
use Rattle.command.specs.Idling.{longest_wait}
use Rattle.acting_accounting.specs.declared.Wear.{Wear}
use Rattle.acting_accounting.specs.Accounting.{most_operations}
use Rattle.record.specs.declared.State.{State}
use Rattle.record.specs.Whole.{regulator_of}
use Rattle.record_limits.specs.Limits.{ticks_of, delays_of, kind_within, motion_within, press_within, counts_within, within_of}

-- the drive, the wait and the fault
pub motion_made : (s : List ℕ) (d : Drive) (w : Option Wait) (l : Latch) {ticks : ℕ} {rests moves fault latched : Bool} → ticks ≡ ticks_of w
    → rests ≡ rests_of d
    → moves ≡ kind_within s d l.fault
    → fault ≡ is_fault l.fault
    → latched ≡ latch_within l (slot s t8)
    → (leb ticks longest_wait && (rests || eqb ticks 0) && moves && (not fault || rests) && latched) ≡ motion_within s d w l
unfolding motion_within
motion_made s d w l p q u v z = rw (p, q, u, v, z)

-- the counts
pub counts_made : (s : List ℕ) (organs : List Organ) (w : Wear) {delays : List ℕ} {marks : Bool} → delays ≡ delays_of s
    → marks ≡ organs_within delays organs
    → (marks && leb (slot s n_l) w.counted_tap && leb w.counted_tap (slot s n_r) && leb w.operations most_operations)
    ≡ counts_within s organs w
unfolding counts_within
counts_made s organs w p q = rw (q, p)

-- and all of them
pub within_made : (s : List ℕ) (m : State) {passes motion press counts : Bool} → passes ≡ passes_of s
    → motion ≡ motion_within s m.drive m.memory.wait m.latch
    → press ≡ press_within m.latch.fault m.memory.remembered
    → counts ≡ counts_within s m.organs m.wear
    → (passes && motion && press && counts) ≡ within_of (regulator_of s m)
unfolding within_of
within_made s m p q u v = rw (p, q, u, v)
