-- A test that antt computes at every number below a bound holds at each of them.
-- Assumes nothing.
use mathlib.Core.Path.{◌≡◌, sym, ◌∙◌, ap}
use mathlib.Core.Bool.{Bool, true, false, not, ◌&&◌}
use Prim.Native.Nat.{ℕ, zero, suc, ◌<◌}
use native.Mathlib.Nat.{not-suc-le-zero, eq-or-lt_of_le, le_of_suc-le-suc}
use mathlib.Core.Logic.{⊎_elim}
use borrow.Author.Tests.{not-true}
use Rattle.common.proofs.Joined.{and_left, and_right}

-- whether two tests agree
abbrev pub same : Bool → Bool → Bool
same true b = b
same false b = not b

pub same_true : (a b : Bool) → same a b ≡ true → a ≡ b
same_true true b e = sym e
same_true false b e = sym (not-true b e)

abbrev pub all_below : (ℕ → Bool) → ℕ → Bool
all_below p zero = true
all_below p (suc n) = p n && all_below p n

pub every : (p : ℕ → Bool) (n : ℕ) → all_below p n ≡ true → (i : ℕ) → i < n → p i ≡ true
every p zero t i h = absurd (not-suc-le-zero h)
every p (suc n) t i h =
    ⊎_elim
    (λ e. ap p e ∙ and_left (p n) (all_below p n) t)
    (λ l. every p n (and_right (p n) (all_below p n) t) i l)
    (eq-or-lt_of_le (le_of_suc-le-suc h))
