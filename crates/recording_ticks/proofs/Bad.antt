-- The place of the first quality byte above 2, found by a loop.
-- Assumes nothing.
use mathlib.Core.Path.{◌≡◌, refl, ◌∙◌, sym}
use mathlib.Core.List.{List}
use Prim.Native.Nat.{ℕ, zero, suc, ◌+◌, ◌-◌, ◌*◌, ◌<◌, ◌≤◌}
use native.Mathlib.Numerals.{add-one}
use native.Mathlib.Omega.{arith}
use borrow.Author.Tests.{lt-ltb, le-ltb}
use lib.Dec.{ltb}
use lib.ListN.{get_or}
use Rattle.std.specs.Prelude.{Option, None, Some, IfSome}
use Rattle.common.proofs.Cases.{yes, no, chosen}
use Rattle.recording_ticks.specs.Recorded.{readings, invalid, reading_bytes, contacts_at, bad_from, bad_place}

-- the first place is the first from the ith reading on
abbrev pub From : List ℕ → ℕ → ℕ → Type 0
From s at i = bad_place s at ≡ bad_from s at (readings - i) i

pub from_start : (s : List ℕ) (at : ℕ) → From s at 0
unfolding bad_place
from_start s at = refl

-- one turn: the reading's quality byte is above 2, or it is not
module _ (s : List ℕ) (at : ℕ) {i : ℕ} (inv : From s at i) where
  module _ (h : i < readings) where
    next : readings - i ≡ suc (readings - (i + 1))
    next = omega (arith, add-one (readings - (i + 1)))

    pub bad_on : get_or s (at + reading_bytes * i) 0 ≤ invalid → From s at (i + 1)
    unfolding bad_from
    bad_on e = inv ∙ rw (next, add-one i) (sym (no _ _ _ _ (le-ltb _ _ e) refl))

    pub bad_here : invalid < get_or s (at + reading_bytes * i) 0 → Some (reading_bytes * i) ≡ bad_place s at
    unfolding bad_from
    bad_here e = sym (inv ∙ rw next (sym (yes _ _ _ _ (lt-ltb _ _ e) refl)))

  -- no reading is left
  pub bad_past : i ≡ readings → None ≡ bad_place s at
  unfolding bad_from
  bad_past e = sym (inv ∙ rw e refl)

-- a bad byte is one of the readings'
pub bad_within : (s : List ℕ) (at n i : ℕ) → i + n ≤ readings → IfSome (bad_from s at n i) (λ (p : ℕ). p < contacts_at)
unfolding bad_from
bad_within s at zero i h = tt
bad_within s at (suc n) i h =
    chosen (λ (o : Option ℕ). IfSome o (λ (p : ℕ). p < contacts_at)) (ltb invalid (get_or s (at + reading_bytes * i) 0)) (Some (reading_bytes * i)) (bad_from s at n (suc i))
    (λ _. omega arith)
    (λ _. bad_within s at n (suc i) (omega arith))

pub ruleset turns = (from_start, bad_on, bad_here, bad_past, bad_within)
