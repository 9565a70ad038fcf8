-- Where U is missing: rule 6 of 01, and 02's ticket 3. Definitions only.
use Rattle.std.specs.Prelude.{ℕ, ◌*◌, Bool, true, not, ◌&&◌, ◌||◌, List, eqb, Float}
use Rattle.common.specs.Choice.{choose}
use Rattle.slots.specs.Slots.{slot, compensation, compensation_current}
use Rattle.measure.specs.declared.Reading.{Reading}
use Rattle.measure.specs.declared.Reading.TheVariants.{Good, Held, Invalid}
use Rattle.measure.specs.Exact.{in_range}
use Rattle.measure.specs.Readings.{most_volts, most_amperes}
use Rattle.phasor.specs.declared.Phasor.{Phasor}
use Rattle.phasor.specs.Pairs.{part_in_range}
use Rattle.input.specs.declared.Input.{Input}
use Rattle.sheet_ranges.specs.Table.{module_factor}

-- "missing or Held": all but a Good number in its range
unfoldable pub missing_or_held : (Float → Bool) → Reading → Bool
missing_or_held ranged (Good x) = not (ranged x)
missing_or_held ranged (Held x) = true
missing_or_held ranged Invalid = true

-- a quantity whose reading is missing or Held, or, where slot 3 is 2, a part of whose pair is
unfoldable pub lacks : List ℕ → ℕ → Reading → Phasor → Bool
lacks s limit r p =
    choose (eqb (slot s compensation) 2) (missing_or_held (part_in_range limit) p.re || missing_or_held (part_in_range limit) p.im)
    (missing_or_held (in_range limit) r)

-- "40 × k A"
abbrev pub amperes_of : List ℕ → ℕ
amperes_of s = most_amperes * module_factor s

-- slot 3: by U_comp, or along the line's impedance
abbrev pub compensates : List ℕ → Bool
compensates s = eqb (slot s compensation) 1 || eqb (slot s compensation) 2

-- slot 4: "0 bus, 1 coupler, 2 bus − coupler, 3 bus + coupler"
abbrev pub names_bus : List ℕ → Bool
names_bus s = eqb (slot s compensation_current) 0 || (eqb (slot s compensation_current) 2 || eqb (slot s compensation_current) 3)

abbrev pub names_coupler : List ℕ → Bool
names_coupler s = eqb (slot s compensation_current) 1 || (eqb (slot s compensation_current) 2 || eqb (slot s compensation_current) 3)

-- "U is missing .. if a needed reading is missing or Held", "if a needed part is missing or Held": U_AB is needed, and, to compensate,
-- each current that slot 4 names
unfoldable pub u_missing : List ℕ → Input → Bool
u_missing s i =
    lacks s most_volts i.u_ab i.phasors.u_ab
    || (compensates s
    && ((names_bus s && lacks s (amperes_of s) i.i_bus i.phasors.i_bus)
    || (names_coupler s && lacks s (amperes_of s) i.i_coupler i.phasors.i_coupler)))
