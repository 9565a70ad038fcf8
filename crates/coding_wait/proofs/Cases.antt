-- Each case has its numbers and is given back by them; numbers that are some case's are those of the case that they give.
-- Assumes nothing.
use mathlib.Core.Path.{◌≡◌, refl}
use mathlib.Core.Bool.{true}
use Prim.Native.Nat.{ℕ, zero, suc}
use native.Mathlib.Omega.{arith}
use borrow.Author.Tests.{leb-true, eqb-true}
use lib.Dec.{leb}
use Rattle.common.specs.Choice.{choose}
use Rattle.common.proofs.Cases.{cases}
use Rattle.common.proofs.Joined.{and_left}
use Rattle.ways.specs.declared.Direction.{Direction}
use Rattle.ways.specs.declared.Direction.TheVariants.{Raise, Lower}
use Rattle.std.specs.Prelude.{Some, Option, None}
use Rattle.command.specs.Idling.{waits_for}
use Rattle.command.specs.declared.Wait.{Wait}
use Rattle.coding_wait.specs.declared.WaitImage.{WaitImage}
use Rattle.coding_ways.specs.Numbers.{way_number}
use Rattle.coding_wait.specs.Numbers.{wait_image, wait_of, is_wait}

wait_back_to : (d : Direction) (n : ℕ) → wait_of (wait_image (waits_for d n)) ≡ waits_for d n
unfolding wait_of wait_image choose
wait_back_to Raise n = refl
wait_back_to Lower n = refl

pub wait_back : (w : Option Wait) → wait_of (wait_image w) ≡ w
unfolding wait_of wait_image choose
wait_back None = refl
wait_back (Some w) = wait_back_to w.direction w.ticks

wait_is_to : (d : Direction) (n : ℕ) → is_wait (wait_image (waits_for d n)) ≡ true
unfolding wait_image
wait_is_to Raise n = refl
wait_is_to Lower n = refl

pub wait_is : (w : Option Wait) → is_wait (wait_image w) ≡ true
unfolding wait_image
wait_is None = refl
wait_is (Some w) = wait_is_to w.direction w.ticks

abbrev wait_at_lem : ℕ → ℕ → WaitImage
wait_at_lem s n = record { side = s; ticks = n }

wait_at : (s n : ℕ) → is_wait (wait_at_lem s n) ≡ true → wait_image (wait_of (wait_at_lem s n)) ≡ wait_at_lem s n
unfolding wait_of wait_image choose
wait_at zero n p = rw (eqb-true n 0 p)
wait_at (suc zero) n p = refl
wait_at (suc (suc zero)) n p = refl
wait_at (suc (suc (suc s))) n p = absurd (omega (arith, leb-true (suc (suc (suc s))) 2 (and_left (leb (suc (suc (suc s))) 2) _ p)))

pub wait_same : (m : WaitImage) → is_wait m ≡ true → wait_image (wait_of m) ≡ m
wait_same m p = wait_at m.side m.ticks p

pub idle_made : (w : Option Wait) → w ≡ None → wait_at_lem 0 0 ≡ wait_image w
unfolding wait_image
idle_made w p = rw p

pub waits_made : (w : Option Wait) (d : Direction) (side n : ℕ) → w ≡ waits_for d n → side ≡ way_number (Some d) → wait_at_lem side n ≡ wait_image w
unfolding wait_image
waits_made w d side n p q = rw (p, q)

pub wait_made : (w : Option Wait) (v : Wait) (side : ℕ) → w ≡ Some v → side ≡ way_number (Some v.direction) → wait_at_lem side v.ticks ≡ wait_image w
unfolding wait_image
wait_made w v side p q = rw (p, q)

pub ruleset coded = (idle_made, wait_made, cases)
