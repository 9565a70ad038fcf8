-- What the functions' proofs cite: a number's part by what its magnitude counts as, and pairs of parts.
-- Assumes nothing.
use mathlib.Core.Path.{◌≡◌, refl, sym, ap, ◌∙◌}
use mathlib.Core.Bool.{Bool, true, false}
use Prim.Native.Nat.{ℕ, zero, suc, ◌+◌, ◌*◌, ◌<◌, ◌≤◌, ◌^◌}
use native.Mathlib.Nat.{le_trans, le_of_eq, mul_assoc, mul-le-mul_left}
use native.Mathlib.Omega.{arith}
use borrow.Author.Rules.{rules}
use Rattle.std.specs.Prelude.{Option, None, Some}
use borrow.Author.Tests.{lt-ltb, leb-true}
use lib.IntN.{ℤ, pos, negsuc, nat_abs, ◌-ℤ◌}
use lib.Ieee.{Float}
use lib.Ieee.Scale.{finite}
use lib.Ieee.Positive.{num, den, den_pos}
use mir.Syntax.{w64}
use mir.Val.{SFits, to_z}
use Rattle.common.proofs.Joined.{and_right}
use Rattle.common.proofs.Signed.{Stands, literal, small, fits, read, back, cast, sub}
use Rattle.measure.specs.Exact.{thousandths}
use Rattle.measure.specs.Readings.{if_in_range}
use Rattle.measure.proofs.Laws.{nearest_le}
use Rattle.phasor.specs.Pairs.{part_in_range, with_sign, minus, signed_thousandths, part_of, fresh_of, paired_of, counted_of, vector_of, Within}
use Rattle.phasor.specs.declared.Numbers.{Numbers}
use Rattle.phasor.specs.declared.Phasor.{Phasor}
use Rattle.phasor.specs.declared.Vector.{Vector}

-- ---- a magnitude with its sign

less : (n : ℕ) → pos 0 -ℤ pos n ≡ with_sign true n
unfolding with_sign
less zero = refl
less (suc n) = rw (lt-ltb 0 (suc n) (omega arith)) (ap negsuc (omega arith))

as_is : (n : ℕ) → pos n ≡ with_sign false n
unfolding with_sign
as_is n = refl

module _ (n : ℕ) (h : n < 2 ^ 32) where
  below_zero : Stands (pos 0 -ℤ to_z w64 n) (pos 0 -ℤ pos n) (0 + 2 ^ 32)
  below_zero = sub (literal 0) (cast h)

  pub minus_fits : SFits w64 (pos 0 -ℤ to_z w64 n)
  minus_fits = fits below_zero tt

  pub minus_is : (t : Bool) → t ≡ true → read (pos 0 -ℤ to_z w64 n) ≡ with_sign t n
  minus_is t e = rw e ((back below_zero tt).is ∙ less n)

  pub minus_small : nat_abs (read (pos 0 -ℤ to_z w64 n)) ≤ 2 ^ 32
  minus_small = small (back below_zero tt)

  pub plus_is : (t : Bool) → t ≡ false → to_z w64 n ≡ with_sign t n
  plus_is t e = rw e ((cast h).is ∙ as_is n)

  pub plus_small : nat_abs (to_z w64 n) ≤ 2 ^ 32
  plus_small = small (cast h)

pub ruleset signs = (minus_fits, minus_is, minus_small, plus_is, plus_small, rules)

-- ---- no part is above its limit

-- a part's magnitude is not above n
abbrev PartWithin : ℕ → Option ℤ → Type 0
PartWithin n None = Unit
PartWithin n (Some z) = nat_abs z ≤ n

sign_le : (s : Bool) (n m : ℕ) → n ≤ m → nat_abs (with_sign s n) ≤ m
unfolding with_sign
sign_le true zero m h = h
sign_le true (suc n) m h = h
sign_le false n m h = h

part_le : (l : ℕ) (x : Float) → PartWithin (1000 * l) (part_of l x)
unfolding part_of
part_le l x = go (part_in_range l x) refl
  where
    go : (b : Bool) → part_in_range l x ≡ b → PartWithin (1000 * l) (if_in_range b (signed_thousandths x))
    go false e = tt
    go true e =
        sign_le (minus x) (thousandths x) (1000 * l)
        (nearest_le (1000 * num x) (den x) (1000 * l) (den_pos x)
        (le_trans (mul-le-mul_left 1000 (leb-true (num x) (l * den x) (and_right (finite x) _ e))) (le_of_eq (sym (mul_assoc 1000 l (den x))))))

paired_le : (n : ℕ) (a b : Option ℤ) → PartWithin n a → PartWithin n b → Within n (paired_of a b)
unfolding paired_of Within
paired_le n None b h k = tt
paired_le n (Some x) None h k = tt
paired_le n (Some x) (Some y) h k = (h, k)

counted_le : (l : ℕ) (f : Option Numbers) → Within (1000 * l) (counted_of l f)
unfolding counted_of Within
counted_le l None = tt
counted_le l (Some n) = paired_le (1000 * l) _ _ (part_le l n.re) (part_le l n.im)

pub counted : (l : ℕ) (p : Phasor) {v : Option Vector} → v ≡ vector_of l p → (v ≡ vector_of l p) × Within (1000 * l) v
unfolding vector_of
counted l p e = (e, rw e (counted_le l (fresh_of p)))

module _ (l : ℕ) (p : Phasor) (f : Option Numbers) (is : f ≡ fresh_of p) where
  pub pair_missing : (v : Option Vector) → f ≡ None → v ≡ None → v ≡ vector_of l p
  unfolding vector_of counted_of
  pair_missing v e q = rw (← is, e) q

  pub pair_both : (v : Option Vector) (n : Numbers) (a b : Option ℤ) → f ≡ Some n → a ≡ part_of l n.re → b ≡ part_of l n.im → v ≡ paired_of a b → v ≡ vector_of l p
  unfolding vector_of counted_of
  pair_both v n a b e q r w = rw (← is, e) (cc)

pub ruleset counting = (pair_missing, pair_both, rules)
