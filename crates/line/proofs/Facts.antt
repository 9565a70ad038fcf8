-- Facts of U along the line, for every sheet, voltage and current.
-- Assumes nothing.
use mathlib.Core.Path.{◌≡◌, refl, sym, ap}
use mathlib.Core.Bool.{true}
use mathlib.Core.List.{List}
use Prim.Native.Nat.{ℕ, suc, ◌≤◌}
use native.Mathlib.Nat.{le_trans, zero-mul, mul-zero, add-zero}
use lib.IntN.{ℤ, pos, negsuc, neg_ℤ, ◌-ℤ◌, ◌*ℤ◌}
use native.Mathlib.Omega.{arith}
use borrow.Author.Tests.{lt-ltb}
use lib.Dec.{lit≤}
use Rattle.slots.specs.Slots.{slot, module_kind, compensation_current, resistance, reactance}
use Rattle.measure.specs.declared.Channel.TheVariants.{Voltage}
use Rattle.measure.specs.Readings.{limit_of}
use Rattle.phasor.specs.declared.Phasors.{Phasors}
use Rattle.std.specs.Prelude.{Some}
use Rattle.phasor.specs.declared.Vector.{Vector}
use Rattle.phasor.specs.Pairs.{vector_of}
use Rattle.sheet.specs.Sheet.{passes_of}
use Rattle.sheet.proofs.Laws.{resistance_most, reactance_most}
use Rattle.root.specs.Roots.{root_of, Root}
use Rattle.root.proofs.Laws.{root_is, root_monotone}
use Rattle.busbar_current.specs.Current.{picked_of}
use Rattle.line_current.specs.Pair.{current_of}
use Rattle.line.proofs.Made.{end_made}
use Rattle.line.specs.Stars.{pair}
use Rattle.line.specs.Along.{most_impedance, scaled_of, drop_re, drop_im, remains_of, squares_of, magnitude_of, far_end_of, along_of}

-- ---- U is what its sentence says

pub u_is_largest : (re im : ℤ) (u : ℕ) → magnitude_of (pair re im) ≡ Some (pos u) → Root (squares_of re im) u
unfolding magnitude_of
u_is_largest re im u e = rw (sym (same e)) (root_is (squares_of re im))
  where
    same : Some (pos (root_of (squares_of re im))) ≡ Some (pos u) → root_of (squares_of re im) ≡ u
    same f = cc

-- where more remains, U is not less
pub u_monotone : (p q a b : ℤ) → squares_of p q ≤ squares_of a b → root_of (squares_of p q) ≤ root_of (squares_of a b)
u_monotone p q a b h = root_monotone (squares_of p q) (squares_of a b) h

-- ---- no impedance, or no current: U is the root of U_AB's own parts

none_of_lem : (z : ℤ) → pos 0 *ℤ z ≡ pos 0
none_of_lem (pos n) = ap pos (zero-mul n)
none_of_lem (negsuc n) = ap (λ (m : ℕ). neg_ℤ (pos m)) (zero-mul (suc n))

of_none : (n : ℕ) → pos n *ℤ pos 0 ≡ pos 0
of_none n = ap pos (mul-zero n)

less_none : (z : ℤ) → z -ℤ pos 0 ≡ z
less_none (pos n) = ap pos (add-zero n)
less_none (negsuc n) = rw (lt-ltb 0 (suc n) (omega arith)) (ap negsuc (omega arith))

no_drop : scaled_of (pos 0 -ℤ pos 0) ≡ pos 0
unfolding scaled_of
no_drop = refl

re_none : (r x : ℕ) → drop_re r x (pos 0) (pos 0) ≡ pos 0
unfolding drop_re
re_none r x = rw (of_none r, of_none x) no_drop

im_none : (r x : ℕ) → drop_im r x (pos 0) (pos 0) ≡ pos 0
unfolding drop_im
im_none r x = rw (mul-zero r, mul-zero x) no_drop

module _ (p q re im : ℤ) where
  pub no_impedance : remains_of 0 0 (pair p q) (pair re im) ≡ pair p q
  unfolding remains_of drop_re drop_im
  no_impedance = rw (none_of_lem re, none_of_lem im, no_drop, less_none p, less_none q)

  pub no_current : (r x : ℕ) → remains_of r x (pair p q) (pair (pos 0) (pos 0)) ≡ pair p q
  unfolding remains_of
  no_current r x = rw (re_none r x, im_none r x) (cc (less_none p, less_none q))

  -- with R and X 0
  pub own_parts : (s : List ℕ) → slot s resistance ≡ 0 → slot s reactance ≡ 0 → far_end_of s (pair p q) (pair re im) ≡ Some (pos (root_of (squares_of p q)))
  unfolding magnitude_of
  own_parts s a b =
      sym
      (end_made (Some (pos (root_of (squares_of p q)))) s (pair p q) (pair re im) (pair p q) (omega (arith, a)) (omega (arith, b)) (rw (a, b) (sym no_impedance))
      refl)

-- ---- U goes by the module, slot 4, R and X, and by no other slot: not by the ratings of 02, ticket 5

pub by_its_slots : (s t : List ℕ) (p : Phasors) → slot s module_kind ≡ slot t module_kind → slot s compensation_current ≡ slot t compensation_current
    → slot s resistance ≡ slot t resistance → slot s reactance ≡ slot t reactance → along_of s p ≡ along_of t p
unfolding along_of far_end_of current_of picked_of
by_its_slots s t p k c r x = rw (k, c, r, x)

-- ---- no taken sheet has an impedance above the bound, so U is there wherever the pairs are

module _ (s : List ℕ) (e : passes_of s ≡ true) where
  taken_impedance : (slot s resistance ≤ most_impedance) × (slot s reactance ≤ most_impedance)
  taken_impedance = (le_trans (resistance_most s e) (lit≤ tt), le_trans (reactance_most s e) (lit≤ tt))

  pub taken_along : (p : Phasors)
      → along_of s p ≡ magnitude_of (remains_of (slot s resistance) (slot s reactance) (vector_of (limit_of Voltage) p.u_ab) (current_of s p))
  unfolding along_of
  taken_along p = sym (end_made _ s _ _ _ taken_impedance.0 taken_impedance.1 refl refl)
