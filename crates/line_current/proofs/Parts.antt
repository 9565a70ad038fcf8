-- The definitions that go by whether a pair is missing, as `search` follows them, and no part above its bound.
-- Assumes nothing.
use mathlib.Core.Path.{◌≡◌, refl, ◌∙◌}
use mathlib.Core.List.{List}
use Prim.Native.Nat.{ℕ, ◌+◌, ◌*◌, ◌≤◌}
use native.Mathlib.Nat.{le_trans}
use native.Mathlib.Omega.{arith}
use borrow.Author.Rules.{rules}
use lib.Dec.{eqb, lit≤}
use lib.IntN.{ℤ, nat_abs}
use Rattle.slots.specs.Slots.{slot, module_kind}
use Rattle.measure.specs.declared.Channel.{Channel}
use Rattle.measure.specs.declared.Channel.TheVariants.{Voltage, Current1A, Current5A}
use Rattle.measure.specs.Readings.{limit_of}
use Rattle.phasor.specs.declared.Phasors.{Phasors}
use Rattle.phasor.specs.declared.Vector.{Vector}
use Rattle.std.specs.Prelude.{Option, None, Some}
use Rattle.phasor.specs.Pairs.{vector_of, Within}
use Rattle.phasor.proofs.Laws.{counted}
use Rattle.input.specs.Brought as brought
use Rattle.busbar_current.specs.Current.{most_reading, most_current, both, wrapped, parts, picked_of}
use Rattle.busbar_current.proofs.Picked.{Joins, exact, picked_alike, picked_has}
use Rattle.line_current.specs.Pair.{by_parts, amperes, current_of}

-- ---- a pair that is there

module _ (n : ℕ) (v : Option Vector) (w : Vector) (is : v ≡ Some w) (h : Within n v) where
  pub within_re : nat_abs w.re ≤ n
  unfolding Within
  within_re = (rw is at h).0

  pub within_im : nat_abs w.im ≤ n
  unfolding Within
  within_im = (rw is at h).1

pub more : (n m : ℕ) (v : Option Vector) → n ≤ m → Within n v → Within m v
unfolding Within
more n m None l h = tt
more n m (Some w) l h = (le_trans h.0 l, le_trans h.1 l)

-- ---- the current

-- no channel's part is above 200,000
limit_most : (c : Channel) → 1000 * limit_of c ≤ most_reading
limit_most Voltage = lit≤ tt
limit_most Current1A = lit≤ tt
limit_most Current5A = lit≤ tt

pub pair_within : (c : Channel) (v : Option Vector) → Within (1000 * limit_of c) v → Within most_reading v
pair_within c v h = more (1000 * limit_of c) most_reading v (limit_most c) h

by_parts_le : (f : ℤ → ℤ → ℤ) → Joins f → (n : ℕ) (a b : Option Vector) → Within n a → Within n b → Within (n + n) (by_parts f a b)
unfolding both Within
by_parts_le f l n None b h k = tt
by_parts_le f l n (Some u) None h k = tt
by_parts_le f l n (Some u) (Some v) h k = (omega (arith, l u.re v.re, h.0, k.0), omega (arith, l u.im v.im, h.1, k.1))

pub current_within : (r : Option Vector) (s : List ℕ) (p : Phasors) → r ≡ current_of s p → Within most_current r
unfolding current_of
current_within r s p e =
    let b = pair_within (amperes s) _ (counted (limit_of (amperes s)) p.i_bus refl).1 in
    let c = pair_within (amperes s) _ (counted (limit_of (amperes s)) p.i_coupler refl).1 in
    rw e
    (picked_has by_parts s (Within most_current) _ _ (more most_reading most_current _ (lit≤ tt) b) (more most_reading most_current _ (lit≤ tt) c)
    (λ f l. by_parts_le f l most_reading _ _ b c))

parts_exact : (f : ℤ → ℤ → ℤ) → Joins f → (a b : Option Vector) → Within most_reading a → Within most_reading b → both (parts (wrapped f)) a b ≡ by_parts f a b
unfolding both Within
parts_exact f l None b h k = refl
parts_exact f l (Some u) None h k = refl
parts_exact f l (Some u) (Some v) h k = rw (exact f l u.re v.re h.0 k.0, exact f l u.im v.im h.1 k.1)

-- what slot 4 picks of two pairs is exact
pub current_made : (r : Option Vector) (s : List ℕ) (p : Phasors) (c : Channel) (bus coupler : Option Vector) → c ≡ brought.current_of (eqb (slot s module_kind) 1)
    → bus ≡ vector_of (limit_of c) p.i_bus → coupler ≡ vector_of (limit_of c) p.i_coupler → Within (1000 * limit_of c) bus → Within (1000 * limit_of c) coupler
    → r ≡ picked_of (λ f. both (parts (wrapped f))) s bus coupler → r ≡ current_of s p
unfolding current_of
current_made r s p c bus coupler e f g h k q =
    q ∙ picked_alike (λ f. both (parts (wrapped f))) s by_parts bus coupler (λ f l. parts_exact f l bus coupler (pair_within c bus h) (pair_within c coupler k))
    ∙ rw (f, g, e)

pub ruleset currents = (current_made, rules)
