-- A record within its limits has a next record within them.
-- Assumes nothing.
use mathlib.Core.Path.{◌≡◌, refl, sym, ap}
use mathlib.Core.Bool.{Bool, true, false, not, ◌||◌}
use mathlib.Core.List.{List, map}
use mathlib.Core.Logic.{⊎_elim}
use Prim.Native.Nat.{ℕ, ◌≤◌}
use native.Mathlib.Omega.{arith}
use borrow.Author.Tests.{le-leb, lt-ltb, ltb-true}
use lib.Dec.{leb, eqb}
use Rattle.common.specs.Choice.{choose}
use Rattle.common.proofs.Cases.{chosen}
use Rattle.slots.specs.Slots.{slot, t4, t5, t8, is_continuous}
use Rattle.sheet_ranges.specs.Table.{most_ticks}
use Rattle.sheet.specs.Sheet.{passes_of}
use Rattle.common.proofs.Joined.{split, and_five, and_false, or_true}
use Rattle.sheet.proofs.Laws.{t1_range, t2_range, t3_range, t4_range, t5_range}
use Rattle.organ.specs.declared.OrganInput.{OrganInput}
use Rattle.ways.specs.declared.Direction.{Direction}
use Rattle.drive.specs.declared.Drive.{Drive}
use Rattle.drive.specs.declared.Drive.TheVariants.{Asked}
use Rattle.fault.specs.declared.Fault.{Fault}
use Rattle.fault.specs.declared.Latch.{Latch}
use Rattle.std.specs.Prelude.{Option, None, Some}
use Rattle.drive_follow.specs.declared.Followed.{Followed}
use Rattle.drive_follow.specs.Follow as follow
use Rattle.drive_follow.specs.Follow.{rests_of}
use Rattle.drive_hold.specs.Hold as hold
use Rattle.fault.specs.Latches.{is_fault, later_of, reset_of, latch_within}
use Rattle.fault.proofs.Kept.{later_long, reset_long}
use Rattle.command.specs.declared.Decided.{Decided}
use Rattle.command.specs.declared.Situation.{Situation}
use Rattle.command.specs.declared.Wait.{Wait}
use Rattle.command.specs.Idling.{longest_wait}
use Rattle.command_automatic.specs.Automatic.{delay_of}
use Rattle.command_deciding.proofs.Sound.{Sound}
use Rattle.record_limits.specs.Limits.{ticks_of, delays_of, kind_within, motion_within, press_within}
use Rattle.record_limits.proofs.OfKind.{held_kind, kind_long, contact_kind}
use Rattle.acting_accounting.specs.Accounting.{most_operations, one_more_of, operations_of}
use Rattle.acting_commanding.specs.Commanding.{ask_of, kept_press_of}
use Rattle.acting_judging.specs.declared.Finding.{Finding}
use Rattle.acting_supervising.specs.Supervising.{cleared_of, followed_of}
use Rattle.acting_commanding.specs.declared.Noted.{Noted}
use Rattle.acting_supervising.proofs.EachKind.{faulty_stays, fault_stops, held_kept, contact_kept}
use Rattle.acting_commanding.proofs.Presses.{fault_drops}
use Rattle.input.specs.declared.Contacts.{Contacts}
use Rattle.sensing_protecting.specs.Protecting.{organ_input_of, organ_inputs_of}
use Rattle.input.specs.declared.Readings.{Readings}

-- ---- the parts of a record within its limits

pub record Parts (s : List ℕ) (d : Drive) (w : Option Wait) (l : Latch) : Type 0 where
  pub ticks : leb (ticks_of w) longest_wait ≡ true
  pub rested : (rests_of d || eqb (ticks_of w) 0) ≡ true
  pub moves : kind_within s d l.fault ≡ true
  pub stopped : (not (is_fault l.fault) || rests_of d) ≡ true
  pub latched : latch_within l (slot s t8) ≡ true

pub motion_parts : (s : List ℕ) (d : Drive) (w : Option Wait) (l : Latch) → motion_within s d w l ≡ true → Parts s d w l
unfolding motion_within
motion_parts s d w l e =
    let h = and_five _ _ _ _ _ e in
    record { ticks = h.0; rested = h.1; moves = h.2; stopped = h.3; latched = h.4 }

pub parts_motion : (s : List ℕ) (d : Drive) (w : Option Wait) (l : Latch) → Parts s d w l → motion_within s d w l ≡ true
unfolding motion_within
parts_motion s d w l p = rw (p.ticks, p.rested, p.moves, p.stopped, p.latched)

-- ---- rule 9: the wait and the drive after a decision

module _ (s : List ℕ) (pass : passes_of s ≡ true) where
  delay_most : (d : Direction) (far : Bool) (w : Option Direction) → delay_of s d far w ≤ most_ticks
  unfolding delay_of
  delay_most d far w =
      chosen (λ n. n ≤ most_ticks) _ _ _ (λ p. (t3_range s pass).1)
      (λ p. chosen (λ n. n ≤ most_ticks) _ _ _ (λ q. (t2_range s pass).1) (λ q. (t1_range s pass).1))

  -- the drive before and after, the latch, and a sound decision
  module _ (x : Situation) (o : Decided) (sound : Sound s x o) (d : Drive) (b : Bool) (l : Latch)
      (rest : x.resting ≡ true → rests_of d ≡ true)
      (moves : kind_within s d l.fault ≡ true)
      (stopped : is_fault l.fault ≡ true → (rests_of d ≡ true) × (o.command ≡ None))
      (held : latch_within l (slot s t8) ≡ true) where
    ticks_kept : (w : Option Wait) → o.wait ≡ w → leb (ticks_of w) longest_wait ≡ true
    unfolding ticks_of
    ticks_kept None e = refl
    ticks_kept (Some w) q =
        le-leb w.ticks longest_wait (omega (arith, (sound.waits w.direction w.ticks q).early, delay_most w.direction x.far x.repeat))

    rested_kept : (w : Option Wait) → o.wait ≡ w → (rests_of (ask_of d b o.command) || eqb (ticks_of w) 0) ≡ true
    unfolding ticks_of ask_of
    rested_kept None e = or_true (rests_of (ask_of d b o.command))
    rested_kept (Some w) q = rw ((sound.waits w.direction w.ticks q).command, rest (sound.waits w.direction w.ticks q).resting)

    moves_kept : (w : Option Direction) → kind_within s (ask_of d b w) l.fault ≡ true
    unfolding ask_of follow.within_of hold.within_of
    moves_kept None = moves
    moves_kept (Some e) =
        ⊎_elim
        (λ c.
        held_kind s (Asked e 0 b) l.fault c (lt-ltb 0 (slot s t4) (omega (arith, (t4_range s pass).0))) (kind_long s d l.fault c moves))
        (λ c. contact_kind s (Asked e 0 b) l.fault c (lt-ltb 0 (slot s t5) (omega (arith, (t5_range s pass).0))))
        (split (is_continuous s))

    stopped_kept : (a : Bool) → is_fault l.fault ≡ a → (not a || rests_of (ask_of d b o.command)) ≡ true
    unfolding ask_of
    stopped_kept false e = refl
    stopped_kept true e = rw (stopped e).1 (stopped e).0

    pub motion_kept : motion_within s (ask_of d b o.command) o.wait l ≡ true
    motion_kept =
        parts_motion s _ _ _
        (record {
          ticks = ticks_kept o.wait refl;
          rested = rested_kept o.wait refl;
          moves = moves_kept o.command;
          stopped = stopped_kept (is_fault l.fault) refl;
          latched = held;
        })

-- ---- rules 2 and 7: the drive and the latch

-- a fault that is latched after the tick has the drive at rest
module _ (s : List ℕ) (c : Contacts) (x : Finding) (d : Drive) (l : Latch) (last : Option Direction) (four : 1 ≤ slot s t4)
    (before : (not (is_fault l.fault) || rests_of d) ≡ true) where
  -- the drive, followed with the latch after reset
  abbrev pub after : Followed
  after = followed_of s c x d (cleared_of c l) last

  was_latched : (b : Bool) → c.reset ≡ b → is_fault (reset_of l c.reset).fault ≡ true → is_fault l.fault ≡ true
  unfolding reset_of choose
  was_latched true e h = let z : ◌≡◌ {A = Bool} false true = (rw e at h) in cc
  was_latched false e h = rw e at h

  at_rest_lem : (b : Bool) → is_fault l.fault ≡ b → b ≡ true → rests_of d ≡ true
  at_rest_lem true e h = rw e at before
  at_rest_lem false e h = let z : ◌≡◌ {A = Bool} false true = h in cc

  pub fault_rests : (b : Bool) → is_fault after.fault ≡ b → is_fault (later_of (cleared_of c l).fault after.fault) ≡ true
      → rests_of after.drive ≡ true
  unfolding later_of choose cleared_of
  fault_rests true e h = fault_stops s c x d (cleared_of c l) last four e
  fault_rests false e h =
      let g : is_fault (reset_of l c.reset).fault ≡ true = rw e at h in
      let q : rests_of d ≡ true = at_rest_lem (is_fault l.fault) refl (was_latched c.reset refl g) in
      ap (λ (o : Followed). rests_of o.drive) (sym (faulty_stays s c x d (cleared_of c l) last g q))

  -- and what the kind of drive allows
  pub kind_after : kind_within s d l.fault ≡ true → kind_within s after.drive (later_of (cleared_of c l).fault after.fault) ≡ true
  unfolding cleared_of
  kind_after m =
      ⊎_elim
      (λ e.
      let h = held_kept s c x d (cleared_of c l) last e in
      held_kind s after.drive _ e h.0 (later_long _ _ (reset_long l c.reset (kind_long s d l.fault e m)) h.1))
      (λ e. contact_kind s after.drive _ e (contact_kept s c x d (cleared_of c l) last four e))
      (split (is_continuous s))

-- ---- 02, ticket 6: a press that is remembered is beside no fault

pub kept_press : (c : Contacts) (f : Option Fault) (n : Noted) → press_within f (kept_press_of c f n) ≡ true
unfolding press_within
kept_press c f n =
    ⊎_elim (λ e. rw (fault_drops c f n e) (ap not (and_false (is_fault f)))) (λ e. rw e refl) (split (is_fault f))

-- ---- rules 5 and 7: the counts

module _ (s : List ℕ) where
  pub delays_are : (x : Readings) (section : Bool) → map (λ (o : OrganInput). o.delay) (organ_inputs_of s x section) ≡ delays_of s
  unfolding organ_inputs_of organ_input_of delays_of
  delays_are x section = refl

  one_more_most : (n : ℕ) → n ≤ most_operations → one_more_of s n ≤ most_operations
  unfolding one_more_of
  one_more_most n h =
      chosen (λ k. k ≤ most_operations) _ _ _ (λ p. chosen (λ k. k ≤ most_operations) _ _ _ (λ q. omega (arith, ltb-true n most_operations q)) (λ q. omega arith)) (λ p. h)

  pub operations_most : (n : ℕ) (operation : Bool) → n ≤ most_operations → operations_of s n operation ≤ most_operations
  unfolding operations_of
  operations_most n operation h = chosen (λ k. k ≤ most_operations) _ _ _ (λ p. one_more_most n h) (λ p. h)
