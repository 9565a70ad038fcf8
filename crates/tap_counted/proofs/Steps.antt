-- The counted tap by the move that ended, as `search` follows it: `search steps`. The counted tap stays within its ends.
-- Assumes nothing.
use mathlib.Core.Path.{◌≡◌}
use mathlib.Core.Bool.{Bool, true, false}
use mathlib.Core.List.{List}
use Prim.Native.Nat.{ℕ, ◌≤◌}
use native.Mathlib.Omega.{arith}
use borrow.Author.Tests.{ltb-true}
use Rattle.common.proofs.Cases.{chosen, cases}
use Rattle.slots.specs.Slots.{slot, n_l, n_r}
use Rattle.ways.specs.declared.Direction.{Direction}
use Rattle.std.specs.Prelude.{Option, None, Some}
use Rattle.tap_counted.specs.Counted.{tap_of, up_of, down_of, step_of, moved_of, counted_of}
use Rattle.tap_counted.specs.declared.Counted.{Counted}

module _ (r : Counted) (s : List ℕ) (tap : ℕ) where
  pub moved_neither : (w : Option Direction) → w ≡ None → r ≡ tap_of tap false → r ≡ moved_of s tap w
  unfolding moved_of
  moved_neither w p q = rw p q

  pub moved_to : (w : Option Direction) (d : Direction) → w ≡ Some d → r ≡ step_of s tap d → r ≡ moved_of s tap w
  unfolding moved_of
  moved_to w d p q = rw p q

pub ruleset steps = (moved_neither, moved_to, cases)

-- within its ends
pub record Between (low high : ℕ) (c : Counted) : Type 0 where
  pub above : low ≤ c.tap
  pub below : c.tap ≤ high

module _ (s : List ℕ) (tap : ℕ) (l : slot s n_l ≤ tap) (h : tap ≤ slot s n_r) where
  abbrev Kept : Counted → Type 0
  Kept c = Between (slot s n_l) (slot s n_r) c

  stays : (error : Bool) → Kept (tap_of tap error)
  stays error = record { above = l; below = h }

  step_kept : (d : Direction) → Kept (step_of s tap d)
  unfolding step_of up_of down_of
  step_kept d =
      chosen Kept _ _ _
      (λ p. chosen Kept _ _ _ (λ q. record { above = omega arith; below = omega (arith, ltb-true tap (slot s n_r) q) }) (λ q. stays true))
      (λ p. chosen Kept _ _ _ (λ q. record { above = omega (arith, ltb-true (slot s n_l) tap q); below = omega arith }) (λ q. stays true))

  moved_kept : (w : Option Direction) → Kept (moved_of s tap w)
  unfolding moved_of
  moved_kept None = stays false
  moved_kept (Some d) = step_kept d

  pub counted_kept : (w : Option Direction) → Between (slot s n_l) (slot s n_r) (counted_of s tap w)
  unfolding counted_of
  counted_kept w = chosen Kept _ _ _ (λ p. moved_kept w) (λ p. stays false)
