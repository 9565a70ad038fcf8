-- The limits of a record (01, 'Limits of a record'; 02, tickets 2 and 6). Definitions only.
use Rattle.std.specs.Prelude.{ℕ, ◌+◌, Bool, not, ◌&&◌, ◌||◌, List, [], ◌∷◌, leb, eqb, Option, None, Some}
use Rattle.common.specs.Choice.{choose}
use Rattle.slots.specs.Slots.{slot, t4, t5, t8, organ_delays, n_l, n_r, is_continuous}
use Rattle.sheet.specs.Sheet.{passes_of}
use Rattle.ways.specs.declared.Direction.{Direction}
use Rattle.ways.specs.Ways.{raises, lowers}
use Rattle.organ.specs.declared.Organ.{Organ}
use Rattle.organ_limits.specs.Limits.{organs_within}
use Rattle.drive.specs.declared.Drive.{Drive}
use Rattle.fault.specs.declared.Fault.{Fault}
use Rattle.fault.specs.declared.Latch.{Latch}
use Rattle.drive_follow.specs.Follow as follow
use Rattle.drive_follow.specs.Follow.{rests_of}
use Rattle.drive_hold.specs.Hold as hold
use Rattle.fault.specs.Latches.{is_fault, long_or_none, latch_within}
use Rattle.command.specs.declared.Wait.{Wait}
use Rattle.command.specs.Idling.{longest_wait}
use Rattle.acting_accounting.specs.declared.Wear.{Wear}
use Rattle.acting_accounting.specs.Accounting.{most_operations}
use Rattle.record.specs.declared.Regulator.{Regulator}

-- the ticks of a wait
unfoldable pub ticks_of : Option Wait → ℕ
ticks_of None = 0
ticks_of (Some w) = w.ticks

-- T9–T15, the delays of the seven organs
unfoldable pub delays_of : List ℕ → List ℕ
delays_of s =
    slot s organ_delays ∷ slot s (organ_delays + 1) ∷ slot s (organ_delays + 2) ∷ slot s (organ_delays + 3) ∷ slot s (organ_delays + 4)
    ∷ slot s (organ_delays + 5) ∷ slot s (organ_delays + 6) ∷ []

-- "an asked command's age (ticks after its first) below T5; a move's length 1–T4". 02, ticket 2, with slot 63: "holds no move and no fault
-- but 'long', and a held command's age is below T4, which stands there in place of T5".
unfoldable pub kind_within : List ℕ → Drive → Option Fault → Bool
kind_within s d f =
    choose (is_continuous s) (hold.within_of d (slot s t4) && long_or_none f) (follow.within_of d (slot s t4) (slot s t5))

-- "wait at most 35,999 and 0 unless the drive rests; [the drive's limits]; at most one fault, and then at rest; fault age .. at most T8, 0
-- without fault"
unfoldable pub motion_within : List ℕ → Drive → Option Wait → Latch → Bool
motion_within s d w l =
    leb (ticks_of w) longest_wait && (rests_of d || eqb (ticks_of w) 0)
    && kind_within s d l.fault
    && (not (is_fault l.fault) || rests_of d)
    && latch_within l (slot s t8)

-- 02, ticket 6: "an accepted record remembers no press beside a fault; one at rest with a press is read as standing before that first tick",
-- and so is accepted
unfoldable pub press_within : Option Fault → Option Direction → Bool
press_within f press = not (is_fault f && (raises press || lowers press))

-- "organ count at most its delay, 0 if not marked; counted tap N_L–N_R; operations at most 999,999"
unfoldable pub counts_within : List ℕ → List Organ → Wear → Bool
counts_within s organs w =
    organs_within (delays_of s) organs && leb (slot s n_l) w.counted_tap && leb w.counted_tap (slot s n_r) && leb w.operations most_operations

-- "settings pass 2 and 3", and 5 with ticket 2 of 02, and the above
unfoldable pub within_of : Regulator → Bool
within_of r =
    passes_of r.settings
    && motion_within r.settings r.state.drive r.state.memory.wait r.state.latch
    && press_within r.state.latch.fault r.state.memory.remembered
    && counts_within r.settings r.state.organs r.state.wear
