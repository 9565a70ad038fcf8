-- The latch stays within its limits, and has no fault only where none arose.
-- Assumes nothing.
use mathlib.Core.Path.{◌≡◌, refl, sym, ◌∙◌}
use mathlib.Core.Bool.{Bool, true, false, ◌||◌, true≢false}
use Prim.Native.Nat.{ℕ, ◌≤◌}
use native.Mathlib.Omega.{arith}
use borrow.Author.Tests.{ltb-true, le-leb}
use lib.Dec.{eqb}
use Rattle.common.specs.Choice.{choose}
use Rattle.common.proofs.Cases.{chosen}
use Rattle.fault.specs.Latches.{is_fault, long_or_none, reset_of, later_of, age_of, latched_of, latch_within}
use Rattle.fault.specs.declared.Fault.{Fault}
use Rattle.std.specs.Prelude.{Option, None, Some}
use Rattle.fault.specs.declared.Latch.{Latch}

-- the latch stays within its limits
age_le : (f : Option Fault) (n t8 : ℕ) → age_of f n t8 ≤ t8
unfolding age_of
age_le f n t8 =
    chosen (λ k. k ≤ t8) _ _ _ (λ p. chosen (λ k. k ≤ t8) _ _ _ (λ q. omega (arith, ltb-true n t8 q)) (λ q. omega arith)) (λ p. omega arith)

age_none : (f : Option Fault) (n t8 : ℕ) → (is_fault f || eqb (age_of f n t8) 0) ≡ true
unfolding age_of choose
age_none None n t8 = refl
age_none (Some f) n t8 = refl

pub latched_within : (l : Latch) (new : Option Fault) (t8 : ℕ) → latch_within (latched_of l new t8) t8 ≡ true
unfolding latched_of
latched_within l new t8 = rw (le-leb _ _ (age_le (later_of l.fault new) l.age t8)) (age_none (later_of l.fault new) l.age t8)

-- no fault after a tick: none arose, and none was latched
pub later_none : (old new : Option Fault) → is_fault (later_of old new) ≡ false → (is_fault new ≡ false) × (is_fault old ≡ false)
unfolding later_of
later_none old new =
    chosen (λ (f : Option Fault). is_fault f ≡ false → (is_fault new ≡ false) × (is_fault old ≡ false)) (is_fault new) new old
    (λ p e. absurd (true≢false (sym p ∙ e))) (λ p e. (p, e))

-- no fault but 'long': reset and a tick on which none but 'long' arose keep it so
pub later_long : (old new : Option Fault) → long_or_none old ≡ true → long_or_none new ≡ true → long_or_none (later_of old new) ≡ true
unfolding later_of
later_long old new p q = chosen (λ (f : Option Fault). long_or_none f ≡ true) _ _ _ (λ _. q) (λ _. p)

pub reset_long : (l : Latch) (pressed : Bool) → long_or_none l.fault ≡ true → long_or_none (reset_of l pressed).fault ≡ true
unfolding reset_of
reset_long l pressed p = chosen (λ (k : Latch). long_or_none k.fault ≡ true) _ _ _ (λ _. refl) (λ _. p)
