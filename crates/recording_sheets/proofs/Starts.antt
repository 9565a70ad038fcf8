-- The numbers of a sheet's file, and the reply to it.
-- Assumes nothing.
use mathlib.Core.Path.{◌≡◌, refl, sym, ◌∙◌, ap}
use mathlib.Core.Bool.{Bool, true, false}
use mathlib.Core.List.{List, []}
use Prim.Native.Nat.{ℕ, ◌+◌, ◌*◌, ◌<◌, ◌≤◌}
use native.Mathlib.Omega.{arith}
use borrow.Author.Tests.{eq-eqb, ne_eqb}
use lib.ListN.{length, set, replicate}
use Rattle.slots.specs.Slots.{slots}
use Rattle.common.specs.Choice.{choose}
use Rattle.common.proofs.Cases.{yes, no}
use Rattle.common.proofs.Fill.{filled, none_filled, fill_more, all_filled}
use Rattle.sheet.specs.Sheet.{number_of, returned_of}
use Rattle.std.specs.Prelude.{Option, Some, None, Result}
use Rattle.sheet.specs.declared.Refusal.{Refusal}
use Rattle.record.specs.declared.Regulator.{Regulator}
use Rattle.record_starting.specs.Starting.{Start, replied_of, start_of}
use Rattle.recording_numbers.specs.Numbers.{number_bytes, number_at}
use Rattle.recording_sheets.specs.SheetFile.{sheet_bytes, number_in, numbers_of, is_whole, sheet_file_of, list_of}

module _ (s : List ℕ) where
  -- the numbers before the ith are there
  abbrev pub Upto : ℕ → List ℕ → Type 0
  Upto i list = list ≡ filled (number_in s) i (replicate slots 0)

  pub none_read_lem : Upto 0 (replicate slots 0)
  none_read_lem = none_filled (number_in s) (replicate slots 0)

  pub one_read : {list : List ℕ} {i n : ℕ} → Upto i list → n ≡ number_at s (number_bytes * i) → i < slots → Upto (i + 1) (set list i n)
  unfolding number_in
  one_read {i = i} inv e h = rw (inv, e) (fill_more (number_in s) (replicate slots 0) i h)

  pub all_read : {list : List ℕ} {i : ℕ} → Upto i list → i ≤ slots → slots ≤ i → list ≡ numbers_of s
  unfolding numbers_of
  all_read {i = i} inv h l =
      let e : i ≡ slots = omega arith in
      inv ∙ rw e (all_filled (number_in s) (replicate slots 0) slots refl)

  pub not_whole : (length s ≡ sheet_bytes → ⊥) → None ≡ sheet_file_of s
  unfolding sheet_file_of
  not_whole h = no _ _ _ _ (ne_eqb _ _ h) refl

  pub whole : {list : List ℕ} → length s ≡ sheet_bytes → list ≡ numbers_of s → Some list ≡ sheet_file_of s
  unfolding sheet_file_of
  whole h e = rw e (yes _ _ _ _ (eq-eqb _ _ h) refl)

-- the list that is checked is the file's numbers, or has none
as_read : (b : Bool) (f : Option (List ℕ)) (ns list : List ℕ) → f ≡ choose b (Some ns) None → f ≡ Some list → list ≡ choose b ns []
unfolding choose
as_read true f ns list e p = cc
as_read false f ns list e p = cc

as_none : (b : Bool) (f : Option (List ℕ)) (ns : List ℕ) → f ≡ choose b (Some ns) None → f ≡ None → [] ≡ choose b ns []
unfolding choose
as_none true f ns e p = cc
as_none false f ns e p = refl

module _ (s : List ℕ) {f : Option (List ℕ)} (e : f ≡ sheet_file_of s) {x : Start} where
  pub start_whole : {list : List ℕ} → f ≡ Some list → x ≡ start_of list → x ≡ start_of (list_of s)
  unfolding sheet_file_of list_of
  start_whole p q = q ∙ ap start_of (as_read (is_whole s) f (numbers_of s) _ e p)

  pub start_other : f ≡ None → x ≡ start_of [] → x ≡ start_of (list_of s)
  unfolding sheet_file_of list_of
  start_other p q = q ∙ ap start_of (as_none (is_whole s) f (numbers_of s) e p)

-- a file of another length is refused with 1
pub refused : (s : List ℕ) (r : Result Regulator Refusal) → replied_of r ≡ start_of (list_of s) → (replied_of r ≡ start_of (list_of s)) × ((length s ≡ sheet_bytes → ⊥) → number_of r ≡ 1)
unfolding list_of start_of returned_of choose
refused s r e = (e, λ h. ap (λ (x : Start). x.number) (e ∙ ap start_of (sym (no _ _ _ _ (ne_eqb _ _ h) refl))))
