-- What a tick in service shows and leaves, field by field; and what each shows of the rules' own values.
-- Assumes nothing.
use mathlib.Core.Path.{◌≡◌, refl}
use mathlib.Core.Bool.{Bool, true, false, not}
use Prim.Native.Nat.{ℕ}
use native.Mathlib.Omega.{arith}
use lib.Dec.{eqb}
use lib.ListN.{get_or}
use Rattle.slots.specs.Slots.{slot, t7}
use Rattle.busbar_level.specs.declared.Level.{Level}
use Rattle.busbar_level.specs.declared.Level.TheVariants.{Low, InBand, High}
use Rattle.ways.specs.declared.Direction.{Direction}
use Rattle.ways.specs.declared.Direction.TheVariants.{Raise, Lower}
use Rattle.drive.specs.declared.Drive.{Drive}
use Rattle.fault.specs.declared.Fault.{Fault}
use Rattle.std.specs.Prelude.{Option, None, Some}
use Rattle.fault.specs.declared.Fault.TheVariants.{RunAway, NotStarted, Long, Fast}
use Rattle.drive_follow.specs.Follow.{rests_of}
use Rattle.fault.specs.Latches.{is_fault, field_of}
use Rattle.drive_shown.specs.Shown.{on_of}
use Rattle.ways.specs.Ways.{is_to}
use Rattle.input.specs.declared.Contacts.{Contacts}
use Rattle.input.specs.declared.Input.{Input}
use Rattle.input.specs.Brought.{contacts_of}
use Rattle.blocks.specs.declared.Blocks.{Blocks}
use Rattle.command.specs.declared.Decided.{Decided}
use Rattle.command.specs.declared.Situation.{Situation}
use Rattle.blocks.specs.Blocked.{opposed_of}
use Rattle.command_deciding.specs.Deciding.{decided_of}
use Rattle.record.specs.declared.Regulator.{Regulator}
use Rattle.acting_supervising.specs.declared.Supervised.{Supervised}
use Rattle.busbar_level.specs.Levels.{side_of}
use Rattle.acting_commanding.specs.Commanding.{ask_of, situation_of, decision_of, regulated_of}
use Rattle.showing.specs.Showing as showing
use Rattle.showing.specs.Showing.{is_low, is_high, signals_of, fields_of, outputs_of}
use Rattle.sensing.specs.declared.Sensed.{Sensed}
use Rattle.rules.specs.declared.Ticked.{Ticked}
use Rattle.claim.specs.Claim.{command_field, block_field, side_field}
use Rattle.rules.specs.Acting.{acted_of}
use Rattle.rules.specs.Ticks.{refusal_in, outputs_in, memory_in, sensed_in, end_of, ran_of}
use Rattle.rules.proofs.Values.{supervised_in, blocked_in}

-- ---- the values of the rules on a tick

-- output n
abbrev pub given : ℕ → Ticked Regulator → ℕ
given n t = get_or (outputs_in t.reply) n 0

abbrev pub contacts_at : Input → Contacts
contacts_at i = contacts_of i.contacts

abbrev pub sensed_at : Regulator → Input → Sensed
sensed_at r i = sensed_in r i (contacts_at i)

abbrev pub supervised_at : Regulator → Input → Supervised
supervised_at r i = supervised_in r (contacts_at i) (sensed_at r i)

abbrev pub blocks_at : Regulator → Input → Blocks
blocks_at r i = blocked_in r (contacts_at i) (sensed_at r i) (supervised_at r i)

abbrev pub situation_at : Regulator → Input → Situation
situation_at r i = situation_of (contacts_at i) (sensed_at r i).assessed (blocks_at r i) (memory_in r) r.state.drive (supervised_at r i).drive

abbrev pub decided_at : Regulator → Input → Decided
decided_at r i = decided_of r.settings (situation_at r i)

abbrev pub drive_at_lem : Regulator → Input → Drive
drive_at_lem r i = ask_of (supervised_at r i).drive (contacts_at i).automatic (decided_at r i).command

abbrev pub live_at : Regulator → Input → Ticked Regulator
live_at r i = ran_of r i (contacts_at i)

-- the command that is on, to a side
abbrev pub on_to : Direction → Drive → ℕ → Bool
on_to d e n = is_to d (on_of e n)

abbrev pub level_to : Direction → Option Level → Bool
level_to Raise l = is_low l
level_to Lower l = is_high l

module _ (r : Regulator) (i : Input) where
  pub live_drive : (live_at r i).next.state.drive ≡ drive_at_lem r i
  unfolding ran_of end_of acted_of regulated_of decision_of
  live_drive = refl

  pub live_wait : (live_at r i).next.state.memory.wait ≡ (decided_at r i).wait
  unfolding ran_of end_of acted_of regulated_of decision_of
  live_wait = refl

  pub live_settings : (live_at r i).next.settings ≡ r.settings
  unfolding ran_of end_of
  live_settings = refl

  pub live_accepted : (refusal_in (live_at r i).reply) ≡ 0
  unfolding ran_of end_of
  live_accepted = refl

  pub live_on : (d : Direction) → given (command_field d) (live_at r i) ≡ showing.bit_of (on_to d (drive_at_lem r i) (slot r.settings t7))
  unfolding ran_of end_of acted_of regulated_of decision_of outputs_of fields_of signals_of
  live_on Raise = refl
  live_on Lower = refl

  pub live_moving : given 24 (live_at r i) ≡ showing.bit_of (not (rests_of (drive_at_lem r i)))
  unfolding ran_of end_of acted_of regulated_of decision_of outputs_of fields_of signals_of
  live_moving = refl

  pub live_automatic : given 13 (live_at r i) ≡ showing.bit_of (blocks_at r i).automatic
  unfolding ran_of end_of acted_of outputs_of fields_of
  live_automatic = refl

  pub live_manual : given 14 (live_at r i) ≡ showing.bit_of (blocks_at r i).manual
  unfolding ran_of end_of acted_of outputs_of fields_of
  live_manual = refl

  pub live_opposed : (d : Direction) → given (block_field d) (live_at r i) ≡ showing.bit_of (opposed_of (blocks_at r i) d)
  unfolding ran_of end_of acted_of outputs_of fields_of
  live_opposed Raise = refl
  live_opposed Lower = refl

  pub live_level : (d : Direction) → given (side_field d) (live_at r i) ≡ showing.bit_of (level_to d (sensed_at r i).assessed.level)
  unfolding ran_of end_of outputs_of fields_of signals_of
  live_level Raise = refl
  live_level Lower = refl

  pub live_run_away : given 19 (live_at r i) ≡ showing.bit_of (eqb (field_of (supervised_at r i).latch.fault) 19)
  unfolding ran_of end_of acted_of outputs_of fields_of signals_of
  live_run_away = refl

  pub live_not_started : given 20 (live_at r i) ≡ showing.bit_of (eqb (field_of (supervised_at r i).latch.fault) 20)
  unfolding ran_of end_of acted_of outputs_of fields_of signals_of
  live_not_started = refl

  pub live_long : given 21 (live_at r i) ≡ showing.bit_of (eqb (field_of (supervised_at r i).latch.fault) 21)
  unfolding ran_of end_of acted_of outputs_of fields_of signals_of
  live_long = refl

  pub live_fast : given 22 (live_at r i) ≡ showing.bit_of (eqb (field_of (supervised_at r i).latch.fault) 22)
  unfolding ran_of end_of acted_of outputs_of fields_of signals_of
  live_fast = refl

-- ---- flags, faults and sides

pub flag_on : (b : Bool) → showing.bit_of b ≡ 1 → b ≡ true
flag_on true e = refl
flag_on false e = absurd (omega arith)

pub flag_off : (b : Bool) → showing.bit_of b ≡ 0 → b ≡ false
flag_off true e = absurd (omega arith)
flag_off false e = refl

pub flag_rests : (b : Bool) → eqb (showing.bit_of (not b)) 0 ≡ b
flag_rests true = refl
flag_rests false = refl

-- the four fields of faults are all 0 exactly without a fault
pub no_fault : (f : Option Fault) → showing.bit_of (eqb (field_of f) 19) ≡ 0 → showing.bit_of (eqb (field_of f) 20) ≡ 0
    → showing.bit_of (eqb (field_of f) 21) ≡ 0 → showing.bit_of (eqb (field_of f) 22) ≡ 0 → is_fault f ≡ false
no_fault None a b c d = refl
no_fault (Some RunAway) a b c d = absurd (omega arith)
no_fault (Some NotStarted) a b c d = absurd (omega arith)
no_fault (Some Long) a b c d = absurd (omega arith)
no_fault (Some Fast) a b c d = absurd (omega arith)

pub no_field : (f : Option Fault) → is_fault f ≡ false
    → (showing.bit_of (eqb (field_of f) 19) ≡ 0) × (showing.bit_of (eqb (field_of f) 20) ≡ 0) × (showing.bit_of (eqb (field_of f) 21) ≡ 0) × (showing.bit_of (eqb (field_of f) 22) ≡ 0)
no_field None e = (refl, refl, refl, refl)
no_field (Some RunAway) e = absurd (let z : ◌≡◌ {A = Bool} true false = e in let y : ◌≡◌ {A = ℕ} 0 1 = cc in omega arith)
no_field (Some NotStarted) e = absurd (let z : ◌≡◌ {A = Bool} true false = e in let y : ◌≡◌ {A = ℕ} 0 1 = cc in omega arith)
no_field (Some Long) e = absurd (let z : ◌≡◌ {A = Bool} true false = e in let y : ◌≡◌ {A = ℕ} 0 1 = cc in omega arith)
no_field (Some Fast) e = absurd (let z : ◌≡◌ {A = Bool} true false = e in let y : ◌≡◌ {A = ℕ} 0 1 = cc in omega arith)

pub level_side : (d : Direction) (l : Option Level) → level_to d l ≡ true → side_of l ≡ Some d
unfolding side_of
level_side Raise (Some Low) e = refl
level_side Raise None e = let z : ◌≡◌ {A = Bool} false true = e in cc
level_side Raise (Some InBand) e = let z : ◌≡◌ {A = Bool} false true = e in cc
level_side Raise (Some High) e = let z : ◌≡◌ {A = Bool} false true = e in cc
level_side Lower (Some High) e = refl
level_side Lower None e = let z : ◌≡◌ {A = Bool} false true = e in cc
level_side Lower (Some InBand) e = let z : ◌≡◌ {A = Bool} false true = e in cc
level_side Lower (Some Low) e = let z : ◌≡◌ {A = Bool} false true = e in cc

pub side_level : (d : Direction) (l : Option Level) → side_of l ≡ Some d → level_to d l ≡ true
unfolding side_of
side_level Raise (Some Low) e = refl
side_level Raise None e = let z : ◌≡◌ {A = ℕ} 0 1 = cc in absurd (omega arith)
side_level Raise (Some InBand) e = let z : ◌≡◌ {A = ℕ} 0 1 = cc in absurd (omega arith)
side_level Raise (Some High) e = let z : ◌≡◌ {A = ℕ} 0 1 = cc in absurd (omega arith)
side_level Lower (Some High) e = refl
side_level Lower None e = let z : ◌≡◌ {A = ℕ} 0 1 = cc in absurd (omega arith)
side_level Lower (Some InBand) e = let z : ◌≡◌ {A = ℕ} 0 1 = cc in absurd (omega arith)
side_level Lower (Some Low) e = let z : ◌≡◌ {A = ℕ} 0 1 = cc in absurd (omega arith)
