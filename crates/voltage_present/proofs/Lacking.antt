-- Where a number or a pair is missing, step by step from the readings to U.
-- Assumes nothing.
use mathlib.Core.Path.{◌≡◌, refl, sym, ap, ◌∙◌}
use mathlib.Core.Bool.{Bool, true, false, not, ◌&&◌, ◌||◌}
use mathlib.Core.List.{List}
use Prim.Native.Nat.{ℕ, zero, suc, ◌*◌, ◌≤◌}
use native.Mathlib.Omega.{arith}
use lib.Dec.{eqb}
use lib.IntN.{ℤ, ◌+ℤ◌, ◌-ℤ◌}
use Rattle.common.specs.Choice.{choose}
use Rattle.common.proofs.Joined.{or_true}
use Rattle.slots.specs.Slots.{slot, module_kind}
use Rattle.measure.specs.Exact.{in_range, thousandths}
use Rattle.measure.specs.Readings as readings
use Rattle.measure.specs.Readings.{most_amperes, limit_of, if_in_range, held_of, measured_of}
use Rattle.measure.specs.declared.Channel.{Channel}
use Rattle.measure.specs.declared.Reading.{Reading}
use Rattle.measure.specs.declared.Reading.TheVariants.{Good, Held, Invalid}
use Rattle.phasor.specs.declared.Phasor.{Phasor}
use Rattle.phasor.specs.declared.Vector.{Vector}
use Rattle.std.specs.Prelude.{Option, None, Some}
use Rattle.phasor.specs.Pairs.{part_in_range, signed_thousandths, part_of, fresh_by, fresh_of, paired_of, counted_of, vector_of}
use Rattle.input.specs.Brought.{current_of}
use Rattle.sheet_ranges.specs.Table.{module_factor}
use Rattle.busbar_current.specs.Current.{number_of, good_of, is_missing, both}
use Rattle.busbar_current.proofs.Facts.{no_cut_off}
use Rattle.line_current.specs.Pair.{by_parts}
use Rattle.line.specs.Along.{remains_of, magnitude_of}
use Rattle.voltage_present.specs.Needed.{missing_or_held, amperes_of}

-- ---- a reading

in_range_there : (b : Bool) (n : ℕ) → is_missing (number_of (readings.good_of (if_in_range b n))) ≡ not b
unfolding number_of readings.good_of
in_range_there true n = refl
in_range_there false n = refl

held_missing : (b : Bool) (n : ℕ) → is_missing (number_of (held_of (if_in_range b n))) ≡ true
unfolding number_of held_of
held_missing true n = refl
held_missing false n = refl

uncut : (l : ℕ) (r : Reading) → is_missing (number_of (measured_of l r)) ≡ missing_or_held (in_range l) r
unfolding number_of measured_of missing_or_held
uncut l (Good x) = in_range_there (in_range l x) (thousandths x)
uncut l (Held x) = held_missing (in_range l x) (thousandths x)
uncut l Invalid = refl

pub reading_missing : (c : Channel) (r : Reading) → is_missing (good_of (measured_of (limit_of c) r)) ≡ missing_or_held (in_range (limit_of c)) r
reading_missing c r = ap is_missing (no_cut_off c r) ∙ uncut (limit_of c) r

-- ---- a pair

abbrev pub gone : Option Vector → Bool
gone None = true
gone (Some v) = false

parts_gone : (a b : Bool) (z w : ℤ) → gone (paired_of (if_in_range a z) (if_in_range b w)) ≡ (not a || not b)
unfolding paired_of
parts_gone true true z w = refl
parts_gone true false z w = refl
parts_gone false true z w = refl
parts_gone false false z w = refl

fresh_gone : (l : ℕ) (a b : Reading) → gone (counted_of l (fresh_by a b)) ≡ (missing_or_held (part_in_range l) a || missing_or_held (part_in_range l) b)
unfolding counted_of part_of missing_or_held
fresh_gone l (Good x) (Good y) = parts_gone (part_in_range l x) (part_in_range l y) (signed_thousandths x) (signed_thousandths y)
fresh_gone l (Good x) (Held y) = sym (or_true (not (part_in_range l x)))
fresh_gone l (Good x) Invalid = sym (or_true (not (part_in_range l x)))
fresh_gone l (Held x) b = refl
fresh_gone l Invalid b = refl

-- a part of it is missing or Held
abbrev pub parts_lack : ℕ → Phasor → Bool
parts_lack l p = missing_or_held (part_in_range l) p.re || missing_or_held (part_in_range l) p.im

pub pair_gone : (l : ℕ) (p : Phasor) → gone (vector_of l p) ≡ parts_lack l p
unfolding vector_of fresh_of
pair_gone l p = fresh_gone l p.re p.im

pub parts_joined : (f : ℤ → ℤ → ℤ) (a b : Option Vector) → gone (by_parts f a b) ≡ (gone a || gone b)
unfolding both
parts_joined f None b = refl
parts_joined f (Some v) None = refl
parts_joined f (Some v) (Some w) = refl

pub remains_gone : (r x : ℕ) (u i : Option Vector) → gone (remains_of r x u i) ≡ (gone u || gone i)
unfolding remains_of
remains_gone r x None i = refl
remains_gone r x (Some u) None = refl
remains_gone r x (Some u) (Some i) = refl

pub magnitude_missing : (v : Option Vector) → is_missing (magnitude_of v) ≡ gone v
unfolding magnitude_of
magnitude_missing None = refl
magnitude_missing (Some v) = refl

-- ---- slot 4's choice, of numbers or of pairs

pub or_false : (b : Bool) → b ≡ (b || false)
or_false true = refl
or_false false = refl

module _ {A : Type 0} (by : (ℤ → ℤ → ℤ) → A → A → A) (lost : A → Bool) (joined : (f : ℤ → ℤ → ℤ) (a b : A) → lost (by f a b) ≡ (lost a || lost b)) (bus coupler : A) where
  pub picked_lost : (n : ℕ) → n ≤ 3
      → lost (choose (eqb n 0) bus (choose (eqb n 1) coupler (choose (eqb n 2) (by ◌-ℤ◌ bus coupler) (by ◌+ℤ◌ bus coupler))))
      ≡ (((eqb n 0 || (eqb n 2 || eqb n 3)) && lost bus) || ((eqb n 1 || (eqb n 2 || eqb n 3)) && lost coupler))
  unfolding choose
  picked_lost zero h = or_false (lost bus)
  picked_lost (suc zero) h = refl
  picked_lost (suc (suc zero)) h = joined ◌-ℤ◌ bus coupler
  picked_lost (suc (suc (suc zero))) h = joined ◌+ℤ◌ bus coupler
  picked_lost (suc (suc (suc (suc n)))) h = absurd (omega (arith, h))

-- ---- a current's range, by k

by_module : (five : Bool) → limit_of (current_of five) ≡ most_amperes * choose five 5 1
unfolding choose
by_module true = refl
by_module false = refl

pub range_by_k : (s : List ℕ) → limit_of (current_of (eqb (slot s module_kind) 1)) ≡ amperes_of s
unfolding module_factor
range_by_k s = by_module (eqb (slot s module_kind) 1)
