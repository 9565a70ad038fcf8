-- The definitions that go by a reading's kind or by whether a number is missing, as `search` follows them: `search values`.
-- Assumes nothing.
use mathlib.Core.Path.{◌≡◌, refl, ap, ◌∙◌}
use mathlib.Core.List.{List}
use Prim.Native.Nat.{ℕ, ◌+◌, ◌<◌, ◌≤◌, ◌^◌}
use native.Mathlib.Nat.{le_trans}
use native.Mathlib.Omega.{arith}
use borrow.Author.Tests.{leb-true}
use lib.Dec.{leb, lit≤}
use lib.IntN.{ℤ, pos, nat_abs}
use mir.Syntax.{w64}
use mir.Val.{to_z}
use Rattle.common.proofs.Cases.{cases, chosen}
use Rattle.common.proofs.Signed.{cast}
use Rattle.measure.specs.declared.Measured.{Measured}
use Rattle.measure.specs.declared.Measured.TheVariants as measured
use Rattle.busbar_current.specs.Current.{most_reading, good_of, both, wrapped, picked_of, current_of, most_current, Within}
use Rattle.std.specs.Prelude.{Option, None, Some}
use Rattle.busbar_current.proofs.Picked.{Joins, exact, picked_alike, picked_has}

-- ---- readings

pub is_cast : (n : ℕ) → n < 2 ^ 32 → Some (to_z w64 n) ≡ Some (pos n)
is_cast n h = ap Some (cast h).is

-- ---- two of which each is needed

module _ {A : Type 0} (r : Option A) (f : A → A → A) where
  pub first_missing : (a b : Option A) → a ≡ None → r ≡ None → r ≡ both f a b
  unfolding both
  first_missing a b p q = rw p q

  pub second_missing : (a b : Option A) (x : A) → a ≡ Some x → b ≡ None → r ≡ None → r ≡ both f a b
  unfolding both
  second_missing a b x p e q = rw (p, e) q

  pub both_made : (a b : Option A) (x y : A) → a ≡ Some x → b ≡ Some y → r ≡ Some (f x y) → r ≡ both f a b
  unfolding both
  both_made a b x y p q e = rw (p, q) e

pub within_is : (n : ℕ) (v : Option ℤ) (z : ℤ) → v ≡ Some z → Within n v → nat_abs z ≤ n
unfolding Within
within_is n v z p h = rw p at h

-- ---- numbers that are not too large

good_le : (m : Measured) → Within most_reading (good_of m)
unfolding good_of Within
good_le (measured.Good n) = chosen (Within most_reading) (leb n most_reading) (Some (pos n)) None (λ p. leb-true n most_reading p) (λ p. tt)
good_le (measured.Held n) = tt
good_le measured.Missing = tt

pub good_within : (r : Option ℤ) (m : Measured) → r ≡ good_of m → Within most_reading r
good_within r m e = rw e (good_le m)

both_exact : (f : ℤ → ℤ → ℤ) → Joins f → (a b : Option ℤ) → Within most_reading a → Within most_reading b → both (wrapped f) a b ≡ both f a b
unfolding both Within
both_exact f l None b h k = refl
both_exact f l (Some x) None h k = refl
both_exact f l (Some x) (Some y) h k = ap Some (exact f l x y h k)

-- what slot 4 picks of two readings is exact
pub current_made : (r : Option ℤ) (s : List ℕ) (bus coupler : Measured) (a b : Option ℤ) → a ≡ good_of bus → b ≡ good_of coupler
    → r ≡ picked_of (λ f. both (wrapped f)) s a b → r ≡ current_of s bus coupler
unfolding current_of
current_made r s bus coupler a b p q e =
    rw (p, q) at e ∙ picked_alike (λ f. both (wrapped f)) s both (good_of bus) (good_of coupler) (λ f l. both_exact f l _ _ (good_le bus) (good_le coupler))

more : (n m : ℕ) (v : Option ℤ) → n ≤ m → Within n v → Within m v
unfolding Within
more n m None l h = tt
more n m (Some z) l h = le_trans h l

both_le : (f : ℤ → ℤ → ℤ) → Joins f → (n : ℕ) (a b : Option ℤ) → Within n a → Within n b → Within (n + n) (both f a b)
unfolding both Within
both_le f l n None b h k = tt
both_le f l n (Some x) None h k = tt
both_le f l n (Some x) (Some y) h k = omega (arith, l x y)

-- |I| is at most the sum of the two currents
pub current_within : (r : Option ℤ) (s : List ℕ) (bus coupler : Measured) → r ≡ current_of s bus coupler → Within most_current r
unfolding current_of
current_within r s bus coupler e =
    let b = good_le bus in
    let c = good_le coupler in
    rw e
    (picked_has both s (Within most_current) _ _ (more most_reading most_current _ (lit≤ tt) b) (more most_reading most_current _ (lit≤ tt) c)
    (λ f l. both_le f l most_reading _ _ b c))

-- readings and what is computed of them
pub ruleset values = (is_cast, good_within, current_made, current_within, cases)
