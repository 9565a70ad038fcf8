-- Pairs of readings (02, ticket 3): "each tick also brings U_AB, I_bus and I_coupler as a pair, real and imaginary part". Definitions only.
use Rattle.std.specs.Prelude.{ℕ, ◌*◌, ◌≤◌, Bool, true, false, ◌&&◌, Option, None, Some, leb, ℤ, pos, neg_ℤ, nat_abs, Float}
use Rattle.std.specs.Float.{nan, inf, fin}
use Rattle.std.specs.Float.Ieee.Positive.{num, den}
use Rattle.std.specs.Float.Ieee.Scale.{finite}
use Rattle.measure.specs.declared.Reading.{Reading}
use Rattle.measure.specs.declared.Reading.TheVariants.{Good, Held, Invalid}
use Rattle.measure.specs.Exact.{thousandths}
use Rattle.measure.specs.Readings.{if_in_range}
use Rattle.phasor.specs.declared.Numbers.{Numbers}
use Rattle.phasor.specs.declared.Phasor.{Phasor}
use Rattle.phasor.specs.declared.Vector.{Vector}

-- "each part a reading in the range −200 to 200 V or −40k to 40k A": finite, and its magnitude not above the limit
abbrev pub part_in_range : ℕ → Float → Bool
part_in_range limit x = finite x && leb (num x) (limit * den x)

-- a magnitude with a sign; −0 is 0
unfoldable pub with_sign : Bool → ℕ → ℤ
with_sign true n = neg_ℤ (pos n)
with_sign false n = pos n

abbrev pub minus : Float → Bool
minus nan = false
minus (inf s) = s
minus (fin s m e) = s

-- "rounded by magnitude with the sign kept": `thousandths` goes by the number's magnitude
abbrev pub signed_thousandths : Float → ℤ
signed_thousandths x = with_sign (minus x) (thousandths x)

unfoldable pub part_of : ℕ → Float → Option ℤ
part_of limit x = if_in_range (part_in_range limit x) (signed_thousandths x)

-- the numbers of two readings that are both Good
abbrev pub fresh_by : Reading → Reading → Option Numbers
fresh_by (Good x) (Good y) = Some (record { re = x; im = y })
fresh_by (Good x) (Held y) = None
fresh_by (Good x) Invalid = None
fresh_by (Held x) b = None
fresh_by Invalid b = None

unfoldable pub fresh_of : Phasor → Option Numbers
fresh_of p = fresh_by p.re p.im

unfoldable pub paired_of : Option ℤ → Option ℤ → Option Vector
paired_of (Some re) (Some im) = Some (record { re = re; im = im })
paired_of (Some re) None = None
paired_of None b = None

unfoldable pub counted_of : ℕ → Option Numbers → Option Vector
counted_of limit None = None
counted_of limit (Some n) = paired_of (part_of limit n.re) (part_of limit n.im)

-- a pair is there if both parts are Good and in range; each then counts as its own signed thousandths
unfoldable pub vector_of : ℕ → Phasor → Option Vector
vector_of limit p = counted_of limit (fresh_of p)

-- no part's magnitude is above n
unfoldable pub Within : ℕ → Option Vector → Type 0
Within n None = Unit
Within n (Some v) = (nat_abs v.re ≤ n) × (nat_abs v.im ≤ n)
