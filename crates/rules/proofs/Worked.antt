-- The rules give the worked lists of crate `claim`, tick by tick, and demand 3 is kept of them: each of its hypotheses is met by a list.
-- Assumes nothing.
use mathlib.Core.Path.{◌≡◌, refl, subst}
use mathlib.Core.Bool.{Bool, true, false}
use mathlib.Core.List.{List, [], ◌∷◌, ◌++◌, map}
use Prim.Native.Nat.{ℕ}
use lib.Ieee.{of_bits}
use lib.ListN.{replicate, set}
use Rattle.slots.specs.Slots.{wear_count}
use Rattle.claim.specs.Claim.{Tick, Opening, All, Some as Somewhere, Begins, Command, Serves, output, Kept}
use Rattle.claim.specs.Scenes.{varied_by, varied_sheet, held_sheet, brought}
use Rattle.claim.proofs.Ticks.{open_to, closed_to, commands, held_to, reset_contact}
use Rattle.claim.proofs.Worked as worked
use Rattle.claim.proofs.Worked.{fresh_opening, waiting_opening, opening_with, held_opening, outside_opening, row_t2, served_list, bound_row, bound_list, brief_row, brief_list, high_list, waiting_list, held_row, held_list, held_band_list, held_high, held_high_list, outside_list}
use Rattle.drive_follow.specs.Follow.{rests_of}
use Rattle.drive.specs.declared.Drive.{Drive}
use Rattle.drive.specs.declared.Drive.TheVariants.{Resting, Asked}
use Rattle.ways.specs.declared.Direction.{Direction}
use Rattle.ways.specs.declared.Direction.TheVariants.{Raise, Lower}
use Rattle.input.specs.declared.Input.{Input}
use Rattle.std.specs.Prelude.{Option, None, Some}
use Rattle.command.specs.Idling.{waits_for}
use Rattle.command.specs.declared.Wait.{Wait}
use Rattle.record.specs.declared.Regulator.{Regulator}
use Rattle.record.specs.Whole.{regulator_of}
use Rattle.record_starting.specs.Starting.{fresh_of}
use Rattle.rules.specs.Lists.{ticks_from, opening}
use Rattle.rules.proofs.Claim.{kept}
use Rattle.rules.proofs.Opened.{opened}

-- what the ticks bring, with the contacts of the worked ticks: 100 V; off to a side, 98 V or 102 V; 111 V, above U_set5
abbrev in_band : Input
in_band = brought 0x42C8_0000 (open_to Raise)

abbrev off_to : Direction → ℕ
off_to Raise = 0x42C4_0000
off_to Lower = 0x42CC_0000

abbrev off_open : Direction → Input
off_open d = brought (off_to d) (open_to d)

abbrev off_closed : Direction → Input
off_closed d = brought (off_to d) (closed_to d)

abbrev high_open : Input
high_open = brought 0x42DE_0000 (open_to Lower)

-- with bit 1 set; and with reset
abbrev band_closed : Input
band_closed = brought 0x42C8_0000 (closed_to Raise)

abbrev low_reset : Input
low_reset = brought 0x42C4_0000 reset_contact

abbrev high_closed : Input
high_closed = brought 0x42DE_0000 (closed_to Lower)

abbrev served : List Input
served = in_band ∷ in_band ∷ (replicate 27 (off_open Raise) ++ (replicate 5 (off_closed Raise) ++ replicate 26 (off_open Raise)))

-- a command at once, which is served as late and for as long as it may be; at once and for one tick
abbrev lately : Direction → List Input
lately d = replicate 22 (off_open d) ++ (replicate 24 (off_closed d) ++ replicate 26 (off_open d))

abbrev briefly : List Input
briefly = off_open Lower ∷ off_closed Lower ∷ off_open Lower ∷ off_open Lower ∷ []

-- held up to the T4th tick after the command's first, and then reset
abbrev long_held : List Input
long_held = replicate 49 (off_closed Raise) ++ replicate 25 low_reset

-- the fresh record of a sheet, but for its drive, its wait and its operations
abbrev fresh_but : List ℕ → Drive → Option Wait → ℕ → Regulator
fresh_but sheet drive wait operations =
    let m = (fresh_of sheet).state in
    regulator_of sheet
    (record {
      organs = m.organs;
      drive = drive;
      latch = m.latch;
      memory = record { wait = wait; repeat = m.memory.repeat; keys = m.memory.keys; remembered = m.memory.remembered };
      wear = record { last = m.wear.last; operations = operations; counted_tap = m.wear.counted_tap };
    })

-- the records that the lists begin on
abbrev fresh : Regulator
fresh = fresh_of varied_sheet

abbrev fresh_held : Regulator
fresh_held = fresh_of held_sheet

abbrev waiting : Regulator
waiting = fresh_but varied_sheet Resting (waits_for Raise 10) 0

-- a tick short of T1
abbrev ready_to : Direction → List ℕ → Regulator
ready_to d sheet = fresh_but sheet Resting (waits_for d 22) 0

abbrev outside : Regulator
outside = fresh_but varied_sheet Resting None 1000000

-- in manual mode at 100 V: the contacts of each tick, and its outputs 0, 1 and 24: raise, lower, asked or moving
abbrev Press : Type 0
Press = ℕ × (ℕ × ℕ × ℕ)

abbrev press_ticks : List Press → List Input
press_ticks rows = map (λ p. brought 0x42C8_0000 p.0) rows

abbrev commands_of : Regulator → List Input → List (ℕ × ℕ × ℕ)
commands_of r is = map (λ t. (output 0 t, output 1 t, output 24 t)) (ticks_from (rests_of r.state.drive) r is)

-- 02, ticket 6: a lower pressed in a raise's move begins on the first tick that starts at rest, and on no other; a raise pressed as its
-- move ends is blocked on that tick, and so dropped
abbrev press_rows : List Press
press_rows =
    (0x000001, (0, 0, 0)) ∷ (0x080001, (1, 0, 1)) ∷ (0x000003, (0, 0, 1)) ∷ (0x100003, (0, 0, 1)) ∷ (0x000003, (0, 0, 1)) ∷ (0x000001, (0, 0, 0))
    ∷ (0x000001, (0, 1, 1)) ∷ (0x000003, (0, 0, 1)) ∷ (0x000003, (0, 0, 1)) ∷ (0x000003, (0, 0, 1)) ∷ (0x080001, (0, 0, 0))
    ∷ (0x000401, (0, 0, 0)) ∷ (0x000001, (0, 0, 0)) ∷ []

-- the same without a switching contact: the command stays for T4 ticks, and both buttons are held as the lower is carried out
abbrev held_press_rows : List Press
held_press_rows =
    (0x000001, (0, 0, 0)) ∷ (0x080001, (1, 0, 1)) ∷ (0x000001, (1, 0, 1)) ∷ (0x100001, (1, 0, 1))
    ∷ (replicate 21 (0x180001, (1, 0, 1)) ++ ((0x180001, (0, 0, 0)) ∷ (0x180001, (0, 1, 1)) ∷ (0x180001, (0, 1, 1)) ∷ []))

-- 02, ticket 7, bit 21 being remote mode: the dispatcher's raise does nothing in local mode, nor held as the mode changes; the panel's raise,
-- held, neither commands in remote mode nor stops the dispatcher's lower. In its move the dispatcher's raise is remembered, and carried
-- out in remote mode. In the next move a change to local mode and back drops it. The panel's raise, pressed on the very tick on which the
-- mode changes, commands; in its move the dispatcher's lower, pressed so, is remembered in place of the panel's raise, and dropped by a
-- change on the tick on which it would be carried out.
abbrev pair_rows : List Press
pair_rows =
    (0x000001, (0, 0, 0)) ∷ (0x400001, (0, 0, 0)) ∷ (0x600001, (0, 0, 0)) ∷ (0x280001, (0, 0, 0)) ∷ (0xA80001, (0, 1, 1))
    ∷ (0x200003, (0, 0, 1)) ∷ (0x600003, (0, 0, 1)) ∷ (0x200003, (0, 0, 1)) ∷ (0x200001, (0, 0, 0)) ∷ (0x200001, (1, 0, 1))
    ∷ (0x200003, (0, 0, 1)) ∷ (0x600003, (0, 0, 1)) ∷ (0x000003, (0, 0, 1)) ∷ (0x200001, (0, 0, 0)) ∷ (0x200001, (0, 0, 0))
    ∷ (0x080001, (1, 0, 1)) ∷ (0x000003, (0, 0, 1)) ∷ (0x080003, (0, 0, 1)) ∷ (0xA00003, (0, 0, 1)) ∷ (0x200001, (0, 0, 0))
    ∷ (0x000001, (0, 0, 0)) ∷ (0x200001, (0, 0, 0)) ∷ []

-- the same two ways without a switching contact: the dispatcher's lower is carried out with both of the panel's buttons held
abbrev held_pair_rows : List Press
held_pair_rows =
    (0x200001, (0, 0, 0)) ∷ (0x600001, (1, 0, 1)) ∷ (0xA00001, (1, 0, 1))
    ∷ (replicate 22 (0x380001, (1, 0, 1)) ++ ((0x380001, (0, 0, 0)) ∷ (0x380001, (0, 1, 1)) ∷ (0x180001, (0, 1, 1)) ∷ []))

-- with the wear count, in manual mode at 100 V: the contacts of each tick, and its output 25, operations
abbrev Count : Type 0
Count = ℕ × ℕ

abbrev counting : List ℕ → Regulator
counting s = fresh_of (set s wear_count 1)

abbrev counts_of : Regulator → List Count → List ℕ
counts_of r rows = map (λ t. output 25 t) (ticks_from (rests_of r.state.drive) r (map (λ p. brought 0x42C8_0000 p.0) rows))

-- rule 7: a raise counts on the tick on which its move ends
abbrev count_rows : List Count
count_rows = (0x000001, 0) ∷ (0x080001, 0) ∷ (replicate 3 (0x000003, 0) ++ ((0x000001, 1) ∷ (0x000001, 1) ∷ []))

-- 02, ticket 2: without a switching contact, on the tick on which the command ends
abbrev held_count_rows : List Count
held_count_rows = (0x000001, 0) ∷ (0x080001, 0) ∷ (replicate 23 (0x000001, 0) ++ ((0x000001, 1) ∷ (0x000001, 1) ∷ []))

-- 02, ticket 2: without a switching contact, on a record that holds a raise, its age below T4, with the wear count. The bits of U_AB and the
-- contacts of each tick, and its outputs 0, 1, 24 and 25: raise, lower, asked or moving, operations
abbrev Holds : Type 0
Holds = (ℕ × ℕ) × (ℕ × ℕ × ℕ × ℕ)

abbrev holding : ℕ → Bool → Regulator
holding age automatic = fresh_but (set held_sheet wear_count 1) (Asked Raise age automatic) None 0

abbrev holds_of : Regulator → List Holds → List (ℕ × ℕ × ℕ × ℕ)
holds_of r rows = map (λ t. (output 0 t, output 1 t, output 24 t, output 25 t)) (ticks_from (rests_of r.state.drive) r (map (λ p. brought p.0.0 p.0.1) rows))

-- an automatic raise stays on a tick at 98 V, where manual is blocked by an organ's trip, and so is the lower by a contact; it ends on the
-- next, which is on the other side, at 102 V; or manual; or blocks its mode, the section being gone; or blocks its direction
abbrev held_raise : Holds
held_raise = ((0x42C4_0000, 0x4801), (1, 0, 1, 0))

abbrev other_side_rows : List Holds
other_side_rows = held_raise ∷ ((0x42CC_0000, 0x4801), (0, 0, 0, 1)) ∷ []

abbrev manual_rows : List Holds
manual_rows = held_raise ∷ ((0x42C4_0000, 0x0801), (0, 0, 0, 1)) ∷ []

abbrev mode_rows : List Holds
mode_rows = held_raise ∷ ((0x42C4_0000, 0x4800), (0, 0, 0, 1)) ∷ []

abbrev direction_rows : List Holds
direction_rows = held_raise ∷ ((0x42C4_0000, 0x4401), (0, 0, 0, 1)) ∷ []

-- a manual raise stays in automatic mode too, in band, on the other side, and with both modes and both directions blocked, up to the T4th
-- tick after its first
abbrev hand_rows : List Holds
hand_rows =
    ((0x42C8_0000, 0x0001), (1, 0, 1, 0)) ∷ ((0x42C8_0000, 0x4001), (1, 0, 1, 0)) ∷ ((0x42CC_0000, 0x4201), (1, 0, 1, 0))
    ∷ ((0x42C4_0000, 0x4001), (0, 0, 0, 1)) ∷ []

pub record Given : Type 0 where
  pub early : ticks_from (rests_of fresh.state.drive) fresh served ≡ served_list Raise 4 5
  pub bound_raise : ticks_from (rests_of (ready_to Raise varied_sheet).state.drive) (ready_to Raise varied_sheet) (lately Raise) ≡ bound_list Raise
  pub bound_lower : ticks_from (rests_of (ready_to Lower varied_sheet).state.drive) (ready_to Lower varied_sheet) (lately Lower) ≡ bound_list Lower
  pub brief : ticks_from (rests_of (ready_to Lower (varied_by 1)).state.drive) (ready_to Lower (varied_by 1)) briefly ≡ brief_list
  pub high : ticks_from (rests_of waiting.state.drive) waiting (replicate 21 high_open) ≡ high_list
  pub held : ticks_from (rests_of waiting.state.drive) waiting (replicate 13 (off_open Raise)) ≡ waiting_list
  pub refused : ticks_from (rests_of outside.state.drive) outside (replicate 3 (off_open Raise)) ≡ outside_list
  pub long : ticks_from (rests_of fresh_held.state.drive) fresh_held long_held ≡ held_list
  pub band : ticks_from (rests_of fresh_held.state.drive) fresh_held (replicate 48 (off_closed Raise) ++ (band_closed ∷ [])) ≡ held_band_list
  pub held_high : ticks_from (rests_of fresh_held.state.drive) fresh_held (replicate 21 high_closed) ≡ held_high_list
  pub pressed : commands_of fresh (press_ticks press_rows) ≡ map (λ p. p.1) press_rows
  pub held_pressed : commands_of fresh_held (press_ticks held_press_rows) ≡ map (λ p. p.1) held_press_rows
  pub paired : commands_of fresh (press_ticks pair_rows) ≡ map (λ p. p.1) pair_rows
  pub held_paired : commands_of fresh_held (press_ticks held_pair_rows) ≡ map (λ p. p.1) held_pair_rows
  pub counted : counts_of (counting varied_sheet) count_rows ≡ map (λ p. p.1) count_rows
  pub held_counted : counts_of (counting held_sheet) held_count_rows ≡ map (λ p. p.1) held_count_rows
  pub other_side : holds_of (holding 5 true) other_side_rows ≡ map (λ p. p.1) other_side_rows
  pub manual : holds_of (holding 5 true) manual_rows ≡ map (λ p. p.1) manual_rows
  pub mode : holds_of (holding 5 true) mode_rows ≡ map (λ p. p.1) mode_rows
  pub direction : holds_of (holding 5 true) direction_rows ≡ map (λ p. p.1) direction_rows
  pub hand : holds_of (holding 20 false) hand_rows ≡ map (λ p. p.1) hand_rows
  pub on_fresh : opening fresh ≡ fresh_opening
  pub on_waiting : opening waiting ≡ waiting_opening
  pub on_raise : opening (ready_to Raise varied_sheet) ≡ opening_with 22 0
  pub on_lower : opening (ready_to Lower varied_sheet) ≡ opening_with 0 22
  pub on_held : opening fresh_held ≡ held_opening
  pub on_outside : opening outside ≡ outside_opening

pub given : Given
unfolding of_bits opened
given =
    record {
      early = refl;
      bound_raise = refl;
      bound_lower = refl;
      brief = refl;
      high = refl;
      held = refl;
      refused = refl;
      long = refl;
      band = refl;
      held_high = refl;
      pressed = refl;
      held_pressed = refl;
      paired = refl;
      held_paired = refl;
      counted = refl;
      held_counted = refl;
      other_side = refl;
      manual = refl;
      mode = refl;
      direction = refl;
      hand = refl;
      on_fresh = refl;
      on_waiting = refl;
      on_raise = refl;
      on_lower = refl;
      on_held = refl;
      on_outside = refl;
    }

-- ---- demand 3 is kept of them

kept_of_lem : (r : Regulator) (is : List Input) {o : Opening} {l : List Tick} → opening r ≡ o → ticks_from (rests_of r.state.drive) r is ≡ l → Kept o l
kept_of_lem r is {o} {l} p q = subst (λ (x : Opening). Kept x l) p (subst (Kept (opening r)) q (kept r is))

kept_held : (is : List Input) {l : List Tick} → ticks_from (rests_of fresh_held.state.drive) fresh_held is ≡ l → Kept held_opening l
kept_held is q = kept_of_lem fresh_held is given.on_held q

-- a row after no waiting ticks, a row under T2, the longest delay; a served command to either side; one that is served by a hold of one
-- tick; a row under T3; a wait held before; without a switching contact a row on its bound, one after 'long' and reset, one under T3;
-- refusals
pub record Met : Type 0 where
  pub after_band_lem : Begins Raise (commands varied_sheet Raise 23)
  pub under_t2_lem : Begins Raise (commands varied_sheet Raise 25)
  pub at_the_latest_lem : Somewhere (Begins Raise) (row_t2 varied_sheet Raise)
  pub again_raise : Somewhere Command (bound_row Raise)
  pub again_lower : Somewhere Command (bound_row Lower)
  pub briefly : Serves (varied_by 1) brief_row
  pub under_t3_lem : Begins Lower (commands varied_sheet Lower 21)
  pub unblocked : (output 13 (commands varied_sheet Raise 23) ≡ 0) × (output 15 (commands varied_sheet Raise 23) ≡ 0)
  pub held_latest_lem : Somewhere (Begins Raise) (held_row (closed_to Raise))
  pub held_exactly_lem : Begins Raise (held_to Raise true 25 (closed_to Raise) 1 1)
  pub held_again_lem : Begins Raise (held_to Raise true 25 reset_contact 1 1)
  pub held_under_t3_lem : Begins Lower (held_high 1 1)
  pub refused : All (λ t. t.refusal ≡ 4) outside_list

pub met : Met
met =
    record {
      after_band_lem = worked.after_band Raise 4 5 (kept_of_lem fresh served given.on_fresh given.early);
      under_t2_lem = worked.under_t2 Raise (kept_of_lem fresh served given.on_fresh given.early);
      at_the_latest_lem = worked.at_the_latest Raise (kept_of_lem fresh served given.on_fresh given.early);
      again_raise = worked.again Raise 22 0 (kept_of_lem (ready_to Raise varied_sheet) (lately Raise) given.on_raise given.bound_raise);
      again_lower = worked.again Lower 0 22 (kept_of_lem (ready_to Lower varied_sheet) (lately Lower) given.on_lower given.bound_lower);
      briefly = worked.brief_serves;
      under_t3_lem = worked.under_t3 (kept_of_lem waiting (replicate 21 high_open) given.on_waiting given.high);
      unblocked = worked.unblocked (kept_of_lem waiting (replicate 13 (off_open Raise)) given.on_waiting given.held);
      held_latest_lem = worked.held_latest (kept_held long_held given.long);
      held_exactly_lem = worked.held_exactly (kept_held long_held given.long);
      held_again_lem = worked.held_again (kept_held long_held given.long);
      held_under_t3_lem = worked.held_under_t3 (kept_held (replicate 21 high_closed) given.held_high);
      refused = worked.refused (kept_of_lem outside (replicate 3 (off_open Raise)) given.on_outside given.refused);
    }
