-- The drop step by step, each with its bound, as `search` follows it: `search drops`.
-- Assumes nothing.
use mathlib.Core.Path.{◌≡◌, refl, sym, ap, ◌∙◌}
use mathlib.Core.Bool.{Bool, true, false, ◌&&◌}
use mathlib.Core.List.{List}
use Prim.Native.Nat.{ℕ, ◌+◌, ◌*◌, ◌<◌, ◌≤◌, ◌^◌}
use native.Mathlib.Nat.{le_trans, mul-le-mul, mul-pos}
use native.Mathlib.Omega.{arith}
use borrow.Author.Rules.{rules}
use borrow.Author.Tests.{leb-true}
use lib.Dec.{leb, lit≤}
use lib.IntN.{ℤ, pos, nat_abs, ◌-ℤ◌, ◌*ℤ◌}
use lib.Signed.{quot_z}
use mir.Syntax.{w64}
use mir.Val.{SFits, to_z}
use Rattle.common.proofs.Cases.{yes_told, no_told}
use Rattle.common.proofs.Joined.{and_left, and_right}
use Rattle.common.proofs.Signed.{Stands, exactly, small, fits, read, back, cast, cast_to, sub, mul, quot}
use Rattle.slots.specs.Slots.{slot, u_comp, ct_rating, breaker_rating}
use Rattle.sheet_ranges.specs.Table.{module_factor}
use Rattle.sheet_ranges.proofs.Tables.{factor_ge, factor_le}
use Rattle.busbar_current.specs.Current.{most_reading, most_current, difference_of, Within}
use Rattle.std.specs.Prelude.{Option, None, Some}
use Rattle.busbar_current.proofs.Values.{first_missing, second_missing, both_made, within_is}
use Rattle.busbar_compensation.specs.Voltage.{most_comp, most_rating, drop_of, is_rating, is_rated, voltage_drop}

module _ (n : ℕ) (e : is_rating n ≡ true) where
  rating_positive : 0 < n
  unfolding is_rating
  rating_positive = leb-true _ _ (and_left _ _ e)

  rating_le : n ≤ most_rating
  unfolding is_rating
  rating_le = leb-true _ _ (and_right (leb 1 n) _ e)

-- 1,000k × the breaker's rating
module _ (k breaker : ℕ) (e : is_rating breaker ≡ true) where
  pub divisor_positive : 0 < k → 0 < 1000 * k * breaker
  divisor_positive h = mul-pos (omega (arith, h)) (rating_positive breaker e)

  module _ (small-k : k ≤ 5) where
    divisor_le : 1000 * k * breaker ≤ 5000 * most_rating
    divisor_le = mul-le-mul {n₂ = 5000} (omega arith) (rating_le breaker e)

    pub divisor_fits : 1000 * k * breaker < 2 ^ 32
    divisor_fits = omega (arith, divisor_le)

    pub divisor_signed : SFits w64 (pos (1000 * k * breaker))
    divisor_signed = record { sfits = omega (arith, divisor_le) }

module _ (comp : ℕ) (i : ℤ) (ct : ℕ) (small-comp : comp ≤ most_comp) (small-i : nat_abs i ≤ most_current) (e : is_rating ct ≡ true) where
  product : Stands (to_z w64 comp *ℤ read i) (pos comp *ℤ i) (most_comp * most_current)
  product = mul (cast_to most_comp small-comp tt) (back (exactly i small-i) tt)

  rated : Stands (read (to_z w64 comp *ℤ read i) *ℤ to_z w64 ct) (pos comp *ℤ i *ℤ pos ct) (most_comp * most_current * most_rating)
  rated = mul (back product tt) (cast_to most_rating (rating_le ct e) tt)

  pub product_fits : SFits w64 (to_z w64 comp *ℤ read i)
  product_fits = fits product tt

  pub rated_fits : SFits w64 (read (to_z w64 comp *ℤ read i) *ℤ to_z w64 ct)
  rated_fits = fits rated tt

  module _ (k breaker : ℕ) (small-k : k ≤ 5) (f : is_rating breaker ≡ true) where
    quotient : Stands (quot_z (read (read (to_z w64 comp *ℤ read i) *ℤ to_z w64 ct)) (to_z w64 (1000 * k * breaker))) (drop_of comp i k ct breaker) (most_comp * most_current * most_rating)
    unfolding drop_of
    quotient = quot (back rated tt) (cast (divisor_fits k breaker f small-k))

    pub quotient_fits : SFits w64 (quot_z (read (read (to_z w64 comp *ℤ read i) *ℤ to_z w64 ct)) (to_z w64 (1000 * k * breaker)))
    quotient_fits = fits quotient tt

    pub drop_is : read (quot_z (read (read (to_z w64 comp *ℤ read i) *ℤ to_z w64 ct)) (to_z w64 (1000 * k * breaker))) ≡ drop_of comp i k ct breaker
    drop_is = (back quotient tt).is

    pub drop_small : nat_abs (read (quot_z (read (read (to_z w64 comp *ℤ read i) *ℤ to_z w64 ct)) (to_z w64 (1000 * k * breaker)))) ≤ 2 ^ 60
    drop_small = le_trans (small (back quotient tt)) (lit≤ tt)

-- settings that were found to be rated
module _ (s : List ℕ) (t : Bool) (e : t ≡ is_rated s) (p : t ≡ true) where
  ratings : (is_rating (slot s ct_rating) && is_rating (slot s breaker_rating)) ≡ true
  unfolding is_rated
  ratings = and_right (leb (slot s u_comp) most_comp) _ (sym e ∙ p)

  pub comp_le : slot s u_comp ≤ most_comp
  unfolding is_rated
  comp_le = leb-true _ _ (and_left _ _ (sym e ∙ p))

  pub ct_rated : is_rating (slot s ct_rating) ≡ true
  ct_rated = and_left _ _ ratings

  pub breaker_rated : is_rating (slot s breaker_rating) ≡ true
  breaker_rated = and_right (is_rating (slot s ct_rating)) _ ratings

pub current_read : (v : Option ℤ) (z : ℤ) → v ≡ Some z → Within most_current v → nat_abs (read z) ≤ most_current
current_read v z p h = small (back (exactly z (within_is most_current v z p h)) tt)

-- U less the drop
module _ (u : Option ℤ) (x r : ℤ) (p : u ≡ Some x) (h : Within most_reading u) (l : nat_abs r ≤ 2 ^ 60) where
  less : Stands (read x -ℤ read r) (x -ℤ r) (most_reading + 2 ^ 60)
  less = sub (back (exactly x (within_is most_reading u x p h)) tt) (back (exactly r l) tt)

  pub less_fits : SFits w64 (read x -ℤ read r)
  less_fits = fits less tt

module _ (s : List ℕ) (u v : Option ℤ) (x : ℤ) (p : u ≡ Some x) where
  pub less_missing : v ≡ None → None ≡ difference_of u (voltage_drop s v)
  unfolding voltage_drop
  less_missing q = second_missing None ◌-ℤ◌ u (voltage_drop s v) x p (rw q) refl

  module _ (y : ℤ) (q : v ≡ Some y) (t : Bool) (e : t ≡ is_rated s) where
    pub less_unrated : t ≡ false → None ≡ difference_of u (voltage_drop s v)
    unfolding voltage_drop
    less_unrated n = second_missing None ◌-ℤ◌ u (voltage_drop s v) x p (rw q (sym (no_told None _ _ t (is_rated s) e n refl))) refl

    pub less_made : (r : ℤ) (k : ℕ) → Within most_reading u → Within most_current v → t ≡ true → k ≡ module_factor s
        → r ≡ drop_of (slot s u_comp) (read y) k (slot s ct_rating) (slot s breaker_rating) → nat_abs r ≤ 2 ^ 60 → Some (read (read x -ℤ read r)) ≡ difference_of u (voltage_drop s v)
    unfolding voltage_drop
    less_made r k h w n f g l =
        let here : read y ≡ y = (back (exactly y (within_is most_current v y q w)) tt).is in
        let there : voltage_drop s v ≡ Some r = rw q (sym (yes_told (Some r) _ _ t (is_rated s) e n (cc))) in
        both_made _ ◌-ℤ◌ u (voltage_drop s v) x r p there (ap Some (back (less u x r p h l) tt).is)

pub less_of : (s : List ℕ) (r a u i v : Option ℤ) → r ≡ difference_of a (voltage_drop s i) → a ≡ u → i ≡ v → r ≡ difference_of u (voltage_drop s v)
less_of s r a u i v e p q = cc

pub ruleset drops = (
  divisor_positive,
  divisor_fits,
  divisor_signed,
  product_fits,
  rated_fits,
  quotient_fits,
  drop_is,
  drop_small,
  factor_ge,
  factor_le,
  current_read,
  comp_le,
  ct_rated,
  breaker_rated,
  first_missing,
  less_missing,
  less_unrated,
  less_fits,
  less_made,
  rules,
)
