-- Rule 6 of 01: the number of a Good reading, and the current of the compensation. Definitions only.
use Rattle.std.specs.Prelude.{ℕ, ◌+◌, ◌*◌, ◌≤◌, Bool, true, false, Option, None, Some, List, eqb, leb, ℤ, pos, nat_abs, ◌+ℤ◌, ◌-ℤ◌}
use Rattle.std.specs.Int.{int_wrap}
use mir.Syntax.{w64}
use Rattle.common.specs.Choice.{choose}
use Rattle.slots.specs.Slots.{slot, compensation_current}
use Rattle.measure.specs.declared.Measured.{Measured}
use Rattle.measure.specs.declared.Measured.TheVariants as measured
use Rattle.measure.specs.Readings.{most_volts}
use Rattle.phasor.specs.declared.Vector.{Vector}

-- 200 V, or 200 A of a 5 A module, in thousandths: no reading is above it
abbrev pub most_reading : ℕ
most_reading = 1000 * most_volts

-- nor is a current that is the sum of two above this
abbrev pub most_current : ℕ
most_current = most_reading + most_reading

-- "a number that is .. above 200 V or 40 × k A is missing": `measure` gives none
abbrev pub reading_of : ℕ → Option ℤ
reading_of n = choose (leb n most_reading) (Some (pos n)) None

-- the number of a Good reading, which is "missing or Held" otherwise
unfoldable pub good_of : Measured → Option ℤ
good_of (measured.Good n) = reading_of n
good_of (measured.Held n) = None
good_of measured.Missing = None

-- the same of any number, however large: `proofs/Facts.antt` shows that the bound takes no reading away
unfoldable pub number_of : Measured → Option ℤ
number_of (measured.Good n) = Some (pos n)
number_of (measured.Held n) = None
number_of measured.Missing = None

-- whether there is no number
abbrev pub is_missing : Option ℤ → Bool
is_missing None = true
is_missing (Some z) = false

-- of two numbers, or pairs, each of which is needed
unfoldable pub both : {A : Type 0} → (A → A → A) → Option A → Option A → Option A
both f None b = None
both f (Some x) None = None
both f (Some x) (Some y) = Some (f x y)

-- two numbers joined, as 64 bits hold what comes of it: itself, where both are no larger than a reading (`proofs/Picked.antt`)
abbrev pub wrapped : (ℤ → ℤ → ℤ) → ℤ → ℤ → ℤ
wrapped f x y = int_wrap w64 (f x y)

-- of two pairs, part by part
abbrev pub parts : (ℤ → ℤ → ℤ) → Vector → Vector → Vector
parts f u v = record { re = f u.re v.re; im = f u.im v.im }

abbrev pub sum_of : Option ℤ → Option ℤ → Option ℤ
sum_of a b = both ◌+ℤ◌ a b

abbrev pub difference_of : Option ℤ → Option ℤ → Option ℤ
difference_of a b = both ◌-ℤ◌ a b

-- slot 4: "0 bus, 1 coupler, 2 bus − coupler, 3 bus + coupler", of two numbers or, `by` their parts, of two pairs; no taken sheet has
-- another number there
unfoldable pub picked_of : {A : Type 0} → ((ℤ → ℤ → ℤ) → A → A → A) → List ℕ → A → A → A
picked_of by s bus coupler =
    choose (eqb (slot s compensation_current) 0) bus
    (choose (eqb (slot s compensation_current) 1) coupler
    (choose (eqb (slot s compensation_current) 2) (by ◌-ℤ◌ bus coupler)
    (by ◌+ℤ◌ bus coupler)))

-- the current of the compensation
unfoldable pub current_of : List ℕ → Measured → Measured → Option ℤ
current_of s bus coupler = picked_of both s (good_of bus) (good_of coupler)

-- a number's magnitude is not above n
unfoldable pub Within : ℕ → Option ℤ → Type 0
Within n None = Unit
Within n (Some z) = nat_abs z ≤ n
