-- The lowest slot at which a test fails, found by a loop.
-- Assumes nothing.
use mathlib.Core.Path.{◌≡◌, refl, ◌∙◌, sym}
use mathlib.Core.Bool.{Bool, true, false}
use mathlib.Core.List.{List}
use Prim.Native.Nat.{ℕ, suc, ◌+◌, ◌-◌, ◌<◌, ◌≤◌}
use native.Mathlib.Numerals.{add-one}
use native.Mathlib.Omega.{arith}
use lib.ListN.{get_or}
use Rattle.slots.specs.Slots.{slots}
use Rattle.common.proofs.Cases.{yes, no}
use Rattle.sheet_ranges.specs.Ranges.{first_from, taken_in, first_out_of_range}
use Rattle.sheet_ranges.specs.Table.{taken_by, taken_of}
use Rattle.sheet_ranges.proofs.Tables.{Columns}

-- the lowest slot out of range is the lowest from i on
abbrev pub From : List ℕ → ℕ → Type 0
From s i = first_out_of_range s ≡ first_from (taken_in s) (slots - i) i

pub from_start : (s : List ℕ) → From s 0
unfolding first_out_of_range
from_start s = refl

-- one turn: the slot's number is taken, or it is not
module _ (s : List ℕ) (i : ℕ) (h : i < slots) where
  next : slots - i ≡ suc (slots - (i + 1))
  next = omega (arith, add-one (slots - (i + 1)))

  step_on : taken_in s i ≡ true → first_from (taken_in s) (slots - i) i ≡ first_from (taken_in s) (slots - (i + 1)) (i + 1)
  unfolding first_from
  step_on e = rw (next, add-one i) (sym (yes _ _ _ _ e refl))

  step_here : taken_in s i ≡ false → first_from (taken_in s) (slots - i) i ≡ i
  unfolding first_from
  step_here e = rw next (sym (no _ _ _ _ e refl))

module _ (s : List ℕ) {i : ℕ} {lows highs steps : List ℕ} (inv : From s i) (h : i < slots) (c : Columns s lows highs steps) where
  module _ {t : Bool} (e : t ≡ taken_by (get_or lows i 0) (get_or highs i 0) (get_or steps i 0) (get_or s i 0)) where
    told : {b : Bool} → t ≡ b → taken_in s i ≡ b
    unfolding taken_in taken_of
    told p = rw (← c.low i h, ← c.high i h, ← c.step i h) (sym e ∙ p)

    pub first_on : t ≡ true → From s (i + 1)
    first_on p = inv ∙ step_on s i h (told p)

    pub first_here : t ≡ false → i ≡ first_out_of_range s
    first_here p = sym (inv ∙ step_here s i h (told p))

-- no slot is left
pub first_past : (s : List ℕ) {i : ℕ} → From s i → i ≤ slots → slots ≤ i → i ≡ first_out_of_range s
unfolding first_from
first_past s {i} inv h l =
    let e : i ≡ slots = omega arith in
    sym (inv ∙ rw e)
