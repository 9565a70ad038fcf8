-- Nothing overflows, for any reading and any impedance that a sheet can hold: each number of the code with a bound on its magnitude,
-- step by step.
-- Assumes nothing.
use mathlib.Core.Path.{◌≡◌, ap, ◌∙◌}
use Prim.Native.Nat.{ℕ, ◌+◌, ◌*◌, ◌<◌, ◌≤◌, ◌^◌}
use native.Mathlib.Nat.{le_trans}
use borrow.Author.Rules.{rules}
use lib.Dec.{T, lit≤, lit<}
use lib.IntN.{ℤ, pos, nat_abs, ◌+ℤ◌, ◌-ℤ◌, ◌*ℤ◌}
use lib.Signed.{quot_z, non_neg}
use mir.Syntax.{w64}
use mir.Val.{Fits, SFits, to_z}
use mir.Facts.{Fits-le, Fits-lit}
use Rattle.common.proofs.Signed.{Stands, exactly, literal, small, fits, read, back, cast_to, divided, looser, square, add, sub, mul}
use Rattle.busbar_current.specs.Current.{most_current}
use Rattle.line.specs.Along.{most_impedance, most_product, most_drop, most_remains, scaled_of, drop_re, drop_im, squares_of}

-- ---- √3 times a product

module _ (z : ℤ) (h : nat_abs z ≤ most_product) where
  enlarged : Stands (read z *ℤ pos 1732051) (z *ℤ pos 1732051) (most_product * 1732051)
  enlarged = mul (back (exactly z h) tt) (literal 1732051)

  reduced : Stands (quot_z (read (read z *ℤ pos 1732051)) (pos 1000000000)) (scaled_of z) most_drop
  unfolding scaled_of
  reduced = looser most_drop (lit≤ tt) (divided (back enlarged tt) 1000000000 (lit< tt))

  pub enlarged_fits : SFits w64 (read z *ℤ pos 1732051)
  enlarged_fits = fits enlarged tt

  pub reduced_fits : SFits w64 (quot_z (read (read z *ℤ pos 1732051)) (pos 1000000000))
  reduced_fits = fits reduced tt

  pub scaled_is : read (quot_z (read (read z *ℤ pos 1732051)) (pos 1000000000)) ≡ scaled_of z
  scaled_is = (back reduced tt).is

  pub scaled_small : nat_abs (read (quot_z (read (read z *ℤ pos 1732051)) (pos 1000000000))) ≤ most_drop
  scaled_small = small (back reduced tt)

  scaled_most : nat_abs (scaled_of z) ≤ most_drop
  scaled_most = reduced.within

pub divisor : 0 < 1000000000
divisor = lit< tt

pub ruleset scaling = (enlarged_fits, reduced_fits, scaled_is, scaled_small, divisor, rules)

-- ---- the drop's parts

module _ (r x : ℕ) (re im : ℤ) (small_r : r ≤ most_impedance) (small-x : x ≤ most_impedance) (small-re : nat_abs re ≤ most_current) (small-im : nat_abs im ≤ most_current) where
  by : {n : ℕ} (z : ℤ) → n ≤ most_impedance → nat_abs z ≤ most_current → Stands (to_z w64 n *ℤ read z) (pos n *ℤ z) (most_impedance * most_current)
  by z h l = mul (cast_to most_impedance h tt) (back (exactly z l) tt)

  real : Stands (read (to_z w64 r *ℤ read re) -ℤ read (to_z w64 x *ℤ read im)) (pos r *ℤ re -ℤ pos x *ℤ im) most_product
  real = sub (back (by re small_r small-re) tt) (back (by im small-x small-im) tt)

  imaginary : Stands (read (to_z w64 r *ℤ read im) +ℤ read (to_z w64 x *ℤ read re)) (pos r *ℤ im +ℤ pos x *ℤ re) most_product
  imaginary = add (back (by im small_r small-im) tt) (back (by re small-x small-re) tt)

  pub real_fits : SFits w64 (read (to_z w64 r *ℤ read re) -ℤ read (to_z w64 x *ℤ read im))
  real_fits = fits real tt

  pub imaginary_fits : SFits w64 (read (to_z w64 r *ℤ read im) +ℤ read (to_z w64 x *ℤ read re))
  imaginary_fits = fits imaginary tt

  pub real_small : nat_abs (read (read (to_z w64 r *ℤ read re) -ℤ read (to_z w64 x *ℤ read im))) ≤ most_product
  real_small = small (back real tt)

  pub imaginary_small : nat_abs (read (read (to_z w64 r *ℤ read im) +ℤ read (to_z w64 x *ℤ read re))) ≤ most_product
  imaginary_small = small (back imaginary tt)

  module _ (d : ℤ) (l : nat_abs d ≤ most_drop) where
    pub re_is : d ≡ scaled_of (read (read (to_z w64 r *ℤ read re) -ℤ read (to_z w64 x *ℤ read im))) → read d ≡ drop_re r x re im
    unfolding drop_re
    re_is e = (back (exactly d l) tt).is ∙ e ∙ ap scaled_of (back real tt).is

    pub im_is : d ≡ scaled_of (read (read (to_z w64 r *ℤ read im) +ℤ read (to_z w64 x *ℤ read re))) → read d ≡ drop_im r x re im
    unfolding drop_im
    im_is e = (back (exactly d l) tt).is ∙ e ∙ ap scaled_of (back imaginary tt).is

  pub re_most : nat_abs (drop_re r x re im) ≤ most_drop
  unfolding drop_re
  re_most = scaled_most _ real.within

  pub im_most : nat_abs (drop_im r x re im) ≤ most_drop
  unfolding drop_im
  im_most = scaled_most _ imaginary.within

module _ (n : ℕ) (z : ℤ) (small_n : n ≤ most_impedance) (small-z : nat_abs z ≤ most_current) where
  pub product_fits : SFits w64 (to_z w64 n *ℤ read z)
  product_fits = fits (mul (cast_to most_impedance small_n tt) (back (exactly z small-z) tt)) tt

pub drop_small : (d : ℤ) → nat_abs d ≤ most_drop → nat_abs (read d) ≤ most_drop
drop_small d l = small (back (exactly d l) tt)

pub ruleset dropping = (product_fits, real_fits, imaginary_fits, real_small, imaginary_small, re_is, im_is, drop_small, rules)

-- ---- the sum of the squares

module _ (re im : ℤ) (small-re : nat_abs re ≤ most_remains) (small-im : nat_abs im ≤ most_remains) where
  squared : (z : ℤ) → nat_abs z ≤ most_remains → Stands (read z *ℤ read z) (z *ℤ z) (most_remains * most_remains)
  squared z h = mul (back (exactly z h) tt) (back (exactly z h) tt)

  both : Stands (read (read re *ℤ read re) +ℤ read (read im *ℤ read im)) (re *ℤ re +ℤ im *ℤ im) (most_remains * most_remains + most_remains * most_remains)
  both = add (back (squared re small-re) tt) (back (squared im small-im) tt)

  pub sum_fits : SFits w64 (read (read re *ℤ read re) +ℤ read (read im *ℤ read im))
  sum_fits = fits both tt

  sum_pos : read (read (read re *ℤ read re) +ℤ read (read im *ℤ read im)) ≡ pos (squares_of re im)
  unfolding squares_of
  sum_pos = (back both tt).is ∙ ap (λ (a : ℤ). a +ℤ im *ℤ im) (square re) ∙ ap (λ (b : ℤ). pos (nat_abs re * nat_abs re) +ℤ b) (square im)

  pub sum_nonneg : T (non_neg (read (read (read re *ℤ read re) +ℤ read (read im *ℤ read im))))
  sum_nonneg = rw sum_pos tt

  pub sum_is : nat_abs (read (read (read re *ℤ read re) +ℤ read (read im *ℤ read im))) ≡ squares_of re im
  sum_is = ap nat_abs sum_pos

  pub sum_small : nat_abs (read (read (read re *ℤ read re) +ℤ read (read im *ℤ read im))) ≤ 2 ^ 61
  sum_small = le_trans (small (back both tt)) (lit≤ tt)

  pub sum_word : Fits w64 (nat_abs (read (read (read re *ℤ read re) +ℤ read (read im *ℤ read im))))
  sum_word = Fits-le {n = 2 ^ 61} sum_small (Fits-lit tt)

pub square_fits : (z : ℤ) → nat_abs z ≤ most_remains → SFits w64 (read z *ℤ read z)
square_fits z h = fits (squared z z h h z h) tt

pub ruleset squaring = (square_fits, sum_fits, sum_nonneg, sum_is, sum_small, sum_word, rules)
