-- Stamps that wrap.
-- Assumes nothing.
use mathlib.Core.Path.{◌≡◌, ap}
use Prim.Native.Nat.{ℕ, ◌+◌, ◌%◌, ◌^◌, ◌<◌}
use mathlib.Core.Bool.{◌&&◌}
use lib.Dec.{leb}
use native.Mathlib.Omega.{arith}
use Rattle.journal.specs.Stamps.{ticks_between, is_later, stamp_after}

pub after_is : (a k : ℕ) {r : ℕ} → r ≡ (a + k) % 2 ^ 32 → r ≡ stamp_after a k
unfolding stamp_after
after_is a k e = e

pub since_is : (a b : ℕ) {r : ℕ} → a < 4294967296 → b < 4294967296 → r < 4294967296 → (r + a) % 2 ^ 32 ≡ b → r ≡ ticks_between a b
unfolding ticks_between
since_is a b p q t e = omega arith

pub later_is : (a b : ℕ) {d : ℕ} → d ≡ ticks_between a b → (leb 1 d && leb d 2147483647) ≡ is_later a b
unfolding is_later
later_is a b e = ap (λ (d : ℕ). leb 1 d && leb d 2147483647) e

-- so many ticks after a stamp is so many ticks since it
pub since_after : (a k : ℕ) → a < 4294967296 → k < 4294967296 → ticks_between a (stamp_after a k) ≡ k
unfolding ticks_between stamp_after
since_after a k p q = omega arith
