-- Looks that are worked out: under T1, T2 and T3, by a press, by one that is remembered, from a command under way, and refused.
-- Assumes nothing.
use mathlib.Core.Path.{◌≡◌, refl}
use mathlib.Core.Bool.{true, false}
use mathlib.Core.List.{List}
use Prim.Native.Nat.{ℕ}
use lib.Ieee.{of_bits}
use Rattle.claim.specs.Scenes.{varied_sheet, held_sheet, brought}
use Rattle.ways.specs.declared.Direction.TheVariants.{Raise, Lower}
use Rattle.std.specs.Prelude.{Option, None, Some}
use Rattle.ways.specs.declared.Direction.{Direction}
use Rattle.drive.specs.declared.Drive.{Drive}
use Rattle.drive.specs.declared.Drive.TheVariants.{Resting, Asked, Moving}
use Rattle.keys.specs.declared.Keys.{Keys}
use Rattle.input.specs.declared.Input.{Input}
use Rattle.record.specs.declared.Regulator.{Regulator}
use Rattle.record.specs.Whole.{regulator_of}
use Rattle.record_starting.specs.Starting.{fresh_of}
use Rattle.rules.proofs.Opened.{opened}
use Rattle.ahead.specs.Looking.{way_begun, begun_by, found_or, first_after, is_horizon, ahead_of}

-- no button pressed on the previous tick
abbrev released : Keys
released = record { panel = record { raise = false; lower = false }; dispatcher = record { raise = false; lower = false }; remote = false }

-- the fresh record of a sheet, but for its drive, its operations, the side of the last automatic command, and a remembered press; no
-- button is pressed
abbrev record_with : List ℕ → Drive → ℕ → Option Direction → Option Direction → Regulator
record_with sheet drive operations repeat remembered =
    let m = (fresh_of sheet).state in
    regulator_of sheet
    (record {
      organs = m.organs;
      drive = drive;
      latch = m.latch;
      memory = record { wait = m.memory.wait; repeat = repeat; keys = released; remembered = remembered };
      wear = record { last = m.wear.last; operations = operations; counted_tap = m.wear.counted_tap };
    })

-- 98 V, 111 V and 100 V; bits 0 (breaker closed) and 14 (automatic), 1 (switching), 19 (raise button)
abbrev low : Input
low = brought 0x42C4_0000 0x4001

abbrev high : Input
high = brought 0x42DE_0000 0x4001

abbrev manual : Input
manual = brought 0x42C8_0000 0x0001

abbrev pressed : Input
pressed = brought 0x42C8_0000 0x08_0001

abbrev closed : Input
closed = brought 0x42C4_0000 0x4003

-- the refusal, the tick and the way
abbrev told : Regulator → Input → ℕ → ℕ × ℕ × (Option Direction)
told r i n = ((ahead_of r i n).refusal, (ahead_of r i n).tick, (ahead_of r i n).way)

pub record Given : Type 0 where
  pub under_t1 : told (fresh_of varied_sheet) low 30 ≡ (0, 23, Some Raise)
  pub under_t2_lem : told (record_with varied_sheet Resting 0 (Some Raise) None) low 30 ≡ (0, 25, Some Raise)
  pub under_t3_lem : told (fresh_of varied_sheet) high 30 ≡ (0, 21, Some Lower)
  pub on_the_last_tick : told (fresh_of varied_sheet) high 21 ≡ (0, 21, Some Lower)
  pub too_short : told (fresh_of varied_sheet) high 20 ≡ (0, 0, None)
  pub by_aPress : told (record_with varied_sheet Resting 0 None None) pressed 3 ≡ (0, 1, Some Raise)
  pub held_before : told (fresh_of varied_sheet) pressed 3 ≡ (0, 0, None)
  pub remembered : told (record_with varied_sheet Resting 0 None (Some Lower)) manual 3 ≡ (0, 1, Some Lower)
  -- in its move, which the open contact ends; it is carried out on the tick that starts at rest
  pub after_its_move : told (record_with varied_sheet (Moving Raise 5 true) 0 None (Some Lower)) manual 3 ≡ (0, 2, Some Lower)
  pub under_way : told (record_with varied_sheet (Asked Raise 0 true) 0 None None) low 3 ≡ (0, 0, None)
  pub own_move : told (record_with varied_sheet (Moving Raise 5 false) 0 None None) closed 3 ≡ (0, 0, None)
  -- without a switching contact: no tick begins the command that is held
  pub held : told (fresh_of held_sheet) closed 30 ≡ (0, 25, Some Raise)
  pub held_on : told (record_with held_sheet (Asked Raise 0 true) 0 None None) closed 3 ≡ (0, 0, None)
  pub outside : told (record_with varied_sheet Resting 1000000 None None) low 30 ≡ (4, 0, None)
  pub four_first : told (record_with varied_sheet Resting 1000000 None None) low 0 ≡ (4, 0, None)
  pub no_horizon : told (fresh_of varied_sheet) low 0 ≡ (6, 0, None)
  pub beyond : told (fresh_of varied_sheet) low 36001 ≡ (6, 0, None)
  pub longest : is_horizon 36000 ≡ true

pub given : Given
unfolding of_bits opened way_begun begun_by found_or first_after ahead_of
given =
    record {
      under_t1 = refl;
      under_t2_lem = refl;
      under_t3_lem = refl;
      on_the_last_tick = refl;
      too_short = refl;
      by_aPress = refl;
      held_before = refl;
      remembered = refl;
      after_its_move = refl;
      under_way = refl;
      own_move = refl;
      held = refl;
      held_on = refl;
      outside = refl;
      four_first = refl;
      no_horizon = refl;
      beyond = refl;
      longest = refl;
    }
