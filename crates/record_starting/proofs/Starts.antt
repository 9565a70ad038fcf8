-- The record that a sheet gives, over plain values; a fresh record is within its limits.
-- Assumes nothing.
use mathlib.Core.Path.{◌≡◌, refl, sym, ap, ◌∙◌}
use mathlib.Core.Bool.{true}
use mathlib.Core.List.{List}
use mathlib.Core.Logic.{◌↔◌}
use Prim.Native.Nat.{ℕ}
use native.Mathlib.Omega.{arith}
use borrow.Author.Tests.{le-leb}
use Rattle.slots.specs.Slots.{slot, t8, n_start}
use Rattle.std.specs.Prelude.{Result, Ok, Err, IsOk, IfOk, is_ok, None}
use Rattle.common.specs.Choice.{choose}
use Rattle.sheet.specs.declared.Refusal.{Refusal}
use Rattle.sheet.specs.declared.Refusal.TheVariants.{WrongLength, OutOfRange, TapOrder, CountedTap}
use Rattle.sheet.specs.Settings.{Settings}
use Rattle.sheet.specs.Sheet.{answer_of, sheet_with, sheet_of, passes_of, reply_of, returned_of}
use Rattle.sheet.proofs.Laws.{taken_pass, taps_range, n_start_most}
use Rattle.organ_limits.proofs.Within.{all_cleared_within}
use Rattle.acting_accounting.specs.Accounting.{most_operations}
use Rattle.record.specs.declared.Regulator.{Regulator}
use Rattle.record_limits.specs.Limits.{ticks_of, delays_of, motion_within, press_within, counts_within, within_of}
use Rattle.record_limits.proofs.OfKind.{rest_kind}
use Rattle.record_starting.specs.Starting.{fresh_of, started_of, replied_of, state_of, start_of}

-- a sheet that passes gives a fresh record within its limits
module _ (s : List ℕ) (e : passes_of s ≡ true) where
  fresh_counts : counts_within s (fresh_of s).state.organs (fresh_of s).state.wear ≡ true
  unfolding counts_within fresh_of
  fresh_counts =
      rw (all_cleared_within (delays_of s) 7, le-leb _ _ (taps_range s e).3, le-leb _ _ (taps_range s e).4, le-leb (slot s n_start) most_operations (omega (arith, n_start_most s e)))

  fresh_motion : motion_within s (fresh_of s).state.drive (fresh_of s).state.memory.wait (fresh_of s).state.latch ≡ true
  unfolding motion_within fresh_of ticks_of
  fresh_motion = rw (rest_kind s None refl, le-leb 0 (slot s t8) (omega arith))

  fresh_press : press_within (fresh_of s).state.latch.fault (fresh_of s).state.memory.remembered ≡ true
  unfolding press_within fresh_of
  fresh_press = refl

  pub fresh_within : within_of (fresh_of s) ≡ true
  unfolding within_of fresh_of
  fresh_within = rw (e, fresh_motion, fresh_press, fresh_counts)

-- what is replied of a checked sheet is what the paper's table returns
reply_lem : (c : Result (List ℕ) Refusal) → replied_of (started_of c) ≡ state_of (reply_of c)
unfolding choose
reply_lem (Ok s) = refl
reply_lem (Err WrongLength) = refl
reply_lem (Err (OutOfRange i)) = refl
reply_lem (Err (TapOrder i)) = refl
reply_lem (Err CountedTap) = refl

ok_lem : (c : Result (List ℕ) Refusal) → is_ok (started_of c) ≡ is_ok c
ok_lem (Ok s) = refl
ok_lem (Err e) = refl

lasting_lem : (list : List ℕ) (a : Result (Unit {0}) Refusal) → answer_of list ≡ a → IfOk (started_of (sheet_with a list)) (λ r. within_of r ≡ true)
lasting_lem list (Ok u) e = fresh_within list (taken_pass list e)
lasting_lem list (Err r) e = tt

-- what `start` answers, by what the check answers
module _ (c : Result (List ℕ) Refusal) where
  pub start_taken : (s : List ℕ) (r : Regulator) → c ≡ Ok s → r ≡ fresh_of s → Ok r ≡ started_of c
  start_taken s r p q = rw (p, q)

  pub start_refused : (e : Refusal) (r : Result Regulator Refusal) → c ≡ Err e → r ≡ Err e → r ≡ started_of c
  start_refused e r p q = rw (p, q)

-- all that it promises
module _ (list : List ℕ) (c : Result (List ℕ) Refusal) {r : Result Regulator Refusal} (e : r ≡ started_of c) where
  start_reply : reply_of c ≡ returned_of list → replied_of r ≡ start_of list
  unfolding start_of
  start_reply h = rw e (reply_lem c) ∙ ap state_of h

  start_exactly : IsOk c ↔ Settings list → IsOk r ↔ Settings list
  start_exactly h = ((λ p. h.0 (sym (ok_lem c) ∙ ap is_ok (sym e) ∙ p)), (λ t. ap is_ok e ∙ ok_lem c ∙ h.1 t))

  start_lasting : c ≡ sheet_of list → IfOk r (λ q. within_of q ≡ true)
  unfolding sheet_of
  start_lasting h = rw (e, h) (lasting_lem list (answer_of list) refl)

  pub started : c ≡ sheet_of list → reply_of c ≡ returned_of list → IsOk c ↔ Settings list
      → (replied_of r ≡ start_of list) × ((IsOk r ↔ Settings list) × IfOk r (λ q. within_of q ≡ true))
  started h p x = (start_reply p, (start_exactly x, start_lasting h))
