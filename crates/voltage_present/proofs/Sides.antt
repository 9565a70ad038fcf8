-- On a taken sheet no voltage is both low and high, so it does not matter that low is asked first.
-- Assumes nothing.
use mathlib.Core.Path.{◌≡◌, refl, sym}
use mathlib.Core.Bool.{Bool, true, false, cond, true≢false}
use mathlib.Core.List.{List}
use Prim.Native.Nat.{ℕ, zero, suc, ◌+◌, ◌-◌, ◌*◌, ◌<◌, ◌≤◌}
use native.Mathlib.Nat.{le_trans}
use native.Mathlib.Omega.{arith}
use borrow.Author.Tests.{lt-leb, leb-true}
use lib.Dec.{ltb, lit≤}
use lib.IntN.{ℤ, pos, negsuc, ◌+ℤ◌, ◌-ℤ◌, ◌*ℤ◌}
use lib.Signed.{le_z}
use Rattle.slots.specs.Slots.{slot, d_u}
use Rattle.sheet.specs.Sheet.{passes_of}
use Rattle.sheet.proofs.Laws.{d_u_range}
use Rattle.busbar_deviation.specs.Deviation.{low_of, high_of}

-- z is not both at most n − d and at least n + d
apart : (z : ℤ) (n d : ℕ) → 1 ≤ d → le_z z (pos n -ℤ pos d) ≡ true → le_z (pos n +ℤ pos d) z ≡ false
apart (negsuc k) n d h e = refl
apart (pos k) n zero h e = absurd (omega (arith, h))
apart (pos k) n (suc d) h e = lt-leb (n + suc d) k (go (ltb n (suc d)) e)
  where
    go : (t : Bool) → le_z (pos k) (cond t (negsuc (suc d - suc n)) (pos (n - suc d))) ≡ true → k < n + suc d
    go true q = absurd (true≢false (sym q))
    go false q = omega (arith, leb-true k (n - suc d) q)

pub one_side : (s : List ℕ) → passes_of s ≡ true → (u : ℤ) (supp : ℕ) → low_of u supp (slot s d_u) ≡ true → high_of u supp (slot s d_u) ≡ false
unfolding low_of high_of
one_side s e u supp low = apart (pos 2 *ℤ u) (2 * supp) (slot s d_u) (le_trans (lit≤ tt) (d_u_range s e).0) low
