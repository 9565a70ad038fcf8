use mathlib.Core.Path.{◌≡◌, sym, ap, ◌∙◌, subst}
use Prim.Native.Nat.{ℕ, ◌+◌, ◌*◌, ◌/◌}
use native.Mathlib.Nat.{mul_assoc}
use native.Mathlib.Omega.{arith}
use lib.Dec.{T, leb, lit≤}
use lib.Ieee.{Float, binary32, to_bits}
use lib.Ieee.Fits.{and_l}
use lib.Ieee.Positive.{num, den}
use Rattle.measure.specs.Exact.{counts, thousandths}
use Rattle.measure.specs.Readings.{most_volts}
use Rattle.measure.proofs.Laws.{Parts, parts, no_nan, floor_zero, floor_is, shifted_le, halved}
use Rattle.measure_fraction.proofs.whole_thousandths.Goals as goal

-- x is a fraction over a power of two (`Parts`), of which the shift takes the whole halves of a thousandth. Assumes nothing.

-- the code's last line, by what the shift gives
rounded : (x : Float) (halves : ℕ) → Parts (num x) (den x) (to_bits binary32 x) → halves ≡ 2000 * num x / den x → (halves + 1) / 2 ≡ thousandths x
rounded x halves k e = halved (1000 * num x) (den x) halves k.over (e ∙ ap (λ (z : ℕ). z / den x) (mul_assoc 2 1000 (num x)))

pub float_to_bits-bits : goal.float_to_bits-bits
float_to_bits-bits c = no_nan c.args.x (and_l (counts c.args.x) (leb (num c.args.x) (most_volts * den c.args.x)) c.requires)

pub returns-then-exponent-lt116 : goal.returns-then-exponent-lt116
returns-then-exponent-lt116 c =
    let k = parts c.args.x (subst T (sym c.well_formed.0.1) tt) c.requires in
    rounded c.args.x 0 k (floor_zero 2000 (lit≤ tt) _ _ _ k c.if-exponent-lt116.true)

pub overflow_sub-halves : goal.overflow_sub-halves
overflow_sub-halves c = let k = parts c.args.x (subst T (sym c.well_formed.0.1) tt) c.requires in omega (arith, (k.above c.if-exponent-lt116.false).0)

pub overflow_cast-result : goal.overflow_cast-result
overflow_cast-result c =
    let k = parts c.args.x (subst T (sym c.well_formed.0.1) tt) c.requires in
    omega (arith, shifted_le 2000 (lit≤ tt) _ _ _ k c.if-exponent-lt116.false)

pub returns : goal.returns
returns c =
    let k = parts c.args.x (subst T (sym c.well_formed.0.1) tt) c.requires in
    rounded c.args.x _ k (floor_is 2000 (lit≤ tt) _ _ _ k c.if-exponent-lt116.false)
