-- The definitions that go by whether a pair is missing, as `search` follows them, and no part of what remains above its bound.
-- Assumes nothing.
use mathlib.Core.Path.{◌≡◌}
use Prim.Native.Nat.{ℕ, ◌+◌, ◌≤◌, ◌^◌}
use native.Mathlib.Nat.{le_trans, lt_of_le_of_lt}
use native.Mathlib.Omega.{arith}
use borrow.Author.Rules.{rules}
use lib.Dec.{lit≤, lit<}
use lib.IntN.{ℤ, pos, nat_abs, ◌-ℤ◌}
use mir.Syntax.{w64}
use mir.Val.{SFits, to_z}
use mir.Facts.{to_z_pos}
use Rattle.common.proofs.Signed.{nat_abs-sub, Stands, exactly, fits, read, back, sub}
use Rattle.phasor.specs.declared.Vector.{Vector}
use Rattle.std.specs.Prelude.{Option, None, Some}
use Rattle.phasor.specs.Pairs.{Within}
use Rattle.root.specs.Roots.{root_of}
use Rattle.root.proofs.Laws.{root_most}
use Rattle.busbar_current.specs.Current.{most_reading, most_current}
use Rattle.line_current.proofs.Parts.{within_re, within_im}
use Rattle.line.specs.Along.{most_impedance, most_drop, most_remains, drop_re, drop_im, remains_of, squares_of, magnitude_of}
use Rattle.line.proofs.Bounds.{re_most, im_most}

-- ---- what remains

pub read_most : (n : ℕ) (z : ℤ) → n ≤ 2 ^ 32 → nat_abs z ≤ n → nat_abs (read z) ≤ n
read_most n z l h = let k : nat_abs z ≤ 2 ^ 32 = le_trans h l in (rw (back (exactly z k) tt).is h)

module _ (i : Option Vector) (w : Vector) (is : i ≡ Some w) (h : Within most_current i) where
  pub current_re : nat_abs (read w.re) ≤ most_current
  current_re = read_most most_current w.re (lit≤ tt) (within_re most_current i w is h)

  pub current_im : nat_abs (read w.im) ≤ most_current
  current_im = read_most most_current w.im (lit≤ tt) (within_im most_current i w is h)

  pub current_re_is : nat_abs w.re ≤ most_current
  current_re_is = within_re most_current i w is h

  pub current_im_is : nat_abs w.im ≤ most_current
  current_im_is = within_im most_current i w is h

module _ (u : Option Vector) (w : Vector) (is : u ≡ Some w) (h : Within most_reading u) (d : ℤ) (l : nat_abs d ≤ most_drop) where
  less : (z : ℤ) → nat_abs z ≤ most_reading → Stands (read z -ℤ read d) (z -ℤ d) (most_reading + most_drop)
  less z k = sub (back (exactly z k) tt) (back (exactly d l) tt)

  pub less_re_fits : SFits w64 (read w.re -ℤ read d)
  less_re_fits = fits (less w.re (within_re most_reading u w is h)) tt

  pub less_im_fits : SFits w64 (read w.im -ℤ read d)
  less_im_fits = fits (less w.im (within_im most_reading u w is h)) tt

  less_re : read (read w.re -ℤ read d) ≡ w.re -ℤ d
  less_re = (back (less w.re (within_re most_reading u w is h)) tt).is

  less_im : read (read w.im -ℤ read d) ≡ w.im -ℤ d
  less_im = (back (less w.im (within_im most_reading u w is h)) tt).is

module _ (v : Option Vector) (r x : ℕ) (u i : Option Vector) where
  pub u_missing_lem : u ≡ None → v ≡ None → v ≡ remains_of r x u i
  unfolding remains_of
  u_missing_lem e k = rw e k

  pub i_missing : (a : Vector) → u ≡ Some a → i ≡ None → v ≡ None → v ≡ remains_of r x u i
  unfolding remains_of
  i_missing a e f k = rw (e, f) k

  pub remains_made : (a b : Vector) (d g : ℤ) → u ≡ Some a → i ≡ Some b → Within most_reading u → Within most_current i → d ≡ drop_re r x b.re b.im
      → nat_abs d ≤ most_drop → g ≡ drop_im r x b.re b.im → nat_abs g ≤ most_drop
      → v ≡ Some (record { re = read (read a.re -ℤ read d); im = read (read a.im -ℤ read g) }) → v ≡ remains_of r x u i
  unfolding remains_of
  remains_made a b d g e f h k dd dl gg gl made =
      let m : read (read a.re -ℤ read d) ≡ a.re -ℤ d = less_re u a e h d dl in
      let n : read (read a.im -ℤ read g) ≡ a.im -ℤ g = less_im u a e h g gl in
      rw (e, f) (cc)

pub ruleset remaining =
    (current_re, current_im, current_re_is, current_im_is, less_re_fits, less_im_fits, u_missing_lem, i_missing, remains_made, rules)

remains_le : (r x : ℕ) (u i : Option Vector) → r ≤ most_impedance → x ≤ most_impedance → Within most_reading u → Within most_current i → Within most_remains (remains_of r x u i)
unfolding remains_of Within
remains_le r x None i a b h k = tt
remains_le r x (Some u) None a b h k = tt
remains_le r x (Some u) (Some i) a b h k = (
  omega (arith, nat_abs-sub u.re (drop_re r x i.re i.im), h.0, re_most r x i.re i.im a b k.0 k.1),
  omega (arith, nat_abs-sub u.im (drop_im r x i.re i.im), h.1, im_most r x i.re i.im a b k.0 k.1),
)

pub remains_within : (v : Option Vector) (r x : ℕ) (u i : Option Vector) → v ≡ remains_of r x u i → r ≤ most_impedance → x ≤ most_impedance → Within most_reading u
    → Within most_current i → Within most_remains v
remains_within v r x u i e a b h k = rw e (remains_le r x u i a b h k)

-- ---- its magnitude

module _ (v : Option Vector) (w : Vector) (is : v ≡ Some w) (h : Within most_remains v) where
  pub part_re : nat_abs (read w.re) ≤ most_remains
  part_re = read_most most_remains w.re (lit≤ tt) (within_re most_remains v w is h)

  pub part_im : nat_abs (read w.im) ≤ most_remains
  part_im = read_most most_remains w.im (lit≤ tt) (within_im most_remains v w is h)

  pub part_re_is : nat_abs w.re ≤ most_remains
  part_re_is = within_re most_remains v w is h

  pub part_im_is : nat_abs w.im ≤ most_remains
  part_im_is = within_im most_remains v w is h

module _ (n r : ℕ) (few : n ≤ 2 ^ 61) (is : r ≡ root_of n) where
  root_few : r ≤ 2 ^ 31
  root_few = rw is (root_most n (2 ^ 31) (lt_of_le_of_lt few (lit< tt)))

  pub root_fits : SFits w64 (pos r)
  root_fits = fits (exactly (pos r) root_few) tt

  root_stands : to_z w64 r ≡ pos r
  root_stands = to_z_pos w64 (omega (arith, root_few))

module _ (m : Option ℤ) (v : Option Vector) where
  pub none : v ≡ None → m ≡ None → m ≡ magnitude_of v
  unfolding magnitude_of
  none e k = rw e k

  pub magnitude_made : (w : Vector) (n r : ℕ) → v ≡ Some w → Within most_remains v → n ≡ squares_of (read w.re) (read w.im) → n ≤ 2 ^ 61 → r ≡ root_of n
      → m ≡ Some (to_z w64 r) → m ≡ magnitude_of v
  unfolding magnitude_of
  magnitude_made w n r is h e few k made =
      let a : read w.re ≡ w.re = (back (exactly w.re (within_re most_remains v w is h)) tt).is in
      let b : read w.im ≡ w.im = (back (exactly w.im (within_im most_remains v w is h)) tt).is in
      let t : to_z w64 r ≡ pos r = root_stands n r few k in
      rw is (cc)

pub ruleset magnitudes = (part_re, part_im, part_re_is, part_im_is, root_fits, none, magnitude_made, rules)
