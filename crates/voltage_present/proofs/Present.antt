-- On a taken sheet U is missing exactly where a reading or a part that it needs is missing or Held: no bound in the definitions takes it
-- away.
-- Assumes nothing.
use mathlib.Core.Path.{◌≡◌, refl, ap, ◌∙◌}
use mathlib.Core.Bool.{Bool, true, false, ◌&&◌, ◌||◌}
use mathlib.Core.List.{List}
use Prim.Native.Nat.{ℕ, ◌≤◌}
use lib.Dec.{eqb}
use lib.IntN.{ℤ, ◌-ℤ◌}
use Rattle.common.specs.Choice.{choose}
use Rattle.common.proofs.Cases.{chosen}
use Rattle.slots.specs.Slots.{slot, module_kind, compensation, compensation_current, d_u}
use Rattle.measure.specs.Exact.{in_range}
use Rattle.measure.specs.Readings.{most_volts, limit_of, measured_of}
use Rattle.measure.specs.declared.Channel.TheVariants.{Voltage}
use Rattle.measure.specs.declared.Reading.{Reading}
use Rattle.phasor.specs.declared.Phasor.{Phasor}
use Rattle.phasor.specs.Pairs.{vector_of}
use Rattle.input.specs.declared.Contacts.{Contacts}
use Rattle.input.specs.declared.Input.{Input}
use Rattle.input.specs.Brought as brought
use Rattle.input.specs.Brought.{readings_of}
use Rattle.sheet_ranges.specs.Table.{row_of, row_in}
use Rattle.sheet.specs.Sheet.{passes_of}
use Rattle.sheet.proofs.Laws.{in_row}
use Rattle.busbar_current.specs.Current.{good_of, is_missing, both, difference_of, picked_of, current_of}
use Rattle.std.specs.Prelude.{Option, None, Some}
use Rattle.busbar_current.proofs.Facts.{both_missing}
use Rattle.busbar_compensation.specs.Voltage.{voltage_drop, voltage_of}
use Rattle.busbar_compensation.proofs.Facts.{taken_drop}
use Rattle.busbar_level.specs.Levels as levels
use Rattle.busbar_level.specs.declared.Level.{Level}
use Rattle.busbar_deviation.specs.Deviation.{low_of, high_of, band_of, level_of}
use Rattle.line_current.specs.Pair as pair
use Rattle.line_current.specs.Pair.{by_parts}
use Rattle.line.specs.Along.{along_of}
use Rattle.line.proofs.Facts.{taken_along}
use Rattle.organ.specs.declared.Organ.{Organ}
use Rattle.sensing_assessing.specs.Assessing.{u_of, assessed_of}
use Rattle.sensing_observing.specs.Observing.{counts_of, observed_of}
use Rattle.sensing.specs.Sensing.{sensed_of}
use Rattle.voltage_present.specs.Needed.{missing_or_held, lacks, amperes_of, names_bus, names_coupler, u_missing}
use Rattle.voltage_present.proofs.Lacking.{reading_missing, gone, parts_lack, pair_gone, parts_joined, remains_gone, magnitude_missing, or_false, picked_lost, range_by_k}

-- the three ways of slot 3 in one: along the line's impedance (a), by U_comp (d) and without compensation (g alone)
by_slot_3 : (comp along bus coupler pu pb pc ru rb rc : Bool) (a g d : Option ℤ) → is_missing a ≡ (pu || ((bus && pb) || (coupler && pc))) → is_missing g ≡ ru
    → is_missing d ≡ ((bus && rb) || (coupler && rc))
    → is_missing (choose along a (choose comp (difference_of g d) g))
    ≡ (choose along pu ru || ((comp || along) && ((bus && choose along pb rb) || (coupler && choose along pc rc))))
unfolding choose
by_slot_3 true true bus coupler pu pb pc ru rb rc a g d ea eg ed = ea
by_slot_3 false true bus coupler pu pb pc ru rb rc a g d ea eg ed = ea
by_slot_3 true false bus coupler pu pb pc ru rb rc a g d ea eg ed = both_missing ◌-ℤ◌ g d ∙ rw (eg, ed)
by_slot_3 false false bus coupler pu pb pc ru rb rc a g d ea eg ed = eg ∙ or_false ru

-- what is not missing has a level
level_missing : (s : List ℕ) (v : Option ℤ) (supp : ℕ) → levels.is_missing (level_of s v supp) ≡ is_missing v
unfolding level_of
level_missing s None supp = refl
level_missing s (Some u) supp = refl

module _ (s : List ℕ) (e : passes_of s ≡ true) where
  -- slot 4 has no other number
  four : slot s compensation_current ≤ 3
  unfolding row_of row_in choose
  four = (in_row s e 0 3 compensation_current refl).1

  drop_missing : (v : Option ℤ) → is_missing (voltage_drop s v) ≡ is_missing v
  unfolding voltage_drop
  drop_missing None = refl
  drop_missing (Some i) = ap is_missing (taken_drop s e i)

  -- a current, as a reading and as a pair, with the module's range
  amperes_missing : (r : Reading) → is_missing (good_of (measured_of (limit_of (brought.current_of (eqb (slot s module_kind) 1))) r)) ≡ missing_or_held (in_range (amperes_of s)) r
  amperes_missing r = reading_missing (brought.current_of (eqb (slot s module_kind) 1)) r ∙ ap (λ (l : ℕ). missing_or_held (in_range l) r) (range_by_k s)

  amperes_gone : (p : Phasor) → gone (vector_of (limit_of (pair.amperes s)) p) ≡ parts_lack (amperes_of s) p
  amperes_gone p = pair_gone (limit_of (pair.amperes s)) p ∙ ap (λ (l : ℕ). parts_lack l p) (range_by_k s)

  module _ (i : Input) where
    current_missing : is_missing (current_of s (counts_of s i).i_bus (counts_of s i).i_coupler)
        ≡ ((names_bus s && missing_or_held (in_range (amperes_of s)) i.i_bus) || (names_coupler s && missing_or_held (in_range (amperes_of s)) i.i_coupler))
    unfolding current_of picked_of readings_of
    current_missing =
        picked_lost both is_missing both_missing _ _ (slot s compensation_current) four
        ∙ ap (λ (b : Bool). (names_bus s && b) || (names_coupler s && is_missing (good_of (counts_of s i).i_coupler))) (amperes_missing i.i_bus)
        ∙ ap (λ (b : Bool). (names_bus s && missing_or_held (in_range (amperes_of s)) i.i_bus) || (names_coupler s && b)) (amperes_missing i.i_coupler)

    pair_missing : gone (pair.current_of s i.phasors)
        ≡ ((names_bus s && parts_lack (amperes_of s) i.phasors.i_bus) || (names_coupler s && parts_lack (amperes_of s) i.phasors.i_coupler))
    unfolding pair.current_of picked_of
    pair_missing =
        picked_lost by_parts gone parts_joined _ _ (slot s compensation_current) four
        ∙ ap (λ (b : Bool). (names_bus s && b) || (names_coupler s && gone (vector_of (limit_of (pair.amperes s)) i.phasors.i_coupler))) (amperes_gone i.phasors.i_bus)
        ∙ ap (λ (b : Bool). (names_bus s && parts_lack (amperes_of s) i.phasors.i_bus) || (names_coupler s && b)) (amperes_gone i.phasors.i_coupler)

    along_missing : is_missing (along_of s i.phasors)
        ≡ (parts_lack most_volts i.phasors.u_ab
        || ((names_bus s && parts_lack (amperes_of s) i.phasors.i_bus) || (names_coupler s && parts_lack (amperes_of s) i.phasors.i_coupler)))
    along_missing =
        ap is_missing (taken_along s e i.phasors)
        ∙ magnitude_missing _
        ∙ remains_gone _ _ _ _
        ∙ ap (λ (b : Bool). b || gone (pair.current_of s i.phasors)) (pair_gone (limit_of Voltage) i.phasors.u_ab)
        ∙ ap (λ (b : Bool). parts_lack most_volts i.phasors.u_ab || b) pair_missing

    -- U, of the readings as they count and of the pairs
    pub u_missing_lem : is_missing (u_of s (counts_of s i) i.phasors) ≡ u_missing s i
    unfolding u_of voltage_of u_missing lacks readings_of
    u_missing_lem =
        by_slot_3 (eqb (slot s compensation) 1) (eqb (slot s compensation) 2) (names_bus s) (names_coupler s)
        (parts_lack most_volts i.phasors.u_ab) (parts_lack (amperes_of s) i.phasors.i_bus) (parts_lack (amperes_of s) i.phasors.i_coupler)
        (missing_or_held (in_range most_volts) i.u_ab) (missing_or_held (in_range (amperes_of s)) i.i_bus) (missing_or_held (in_range (amperes_of s)) i.i_coupler)
        _ _ _ along_missing (reading_missing Voltage i.u_ab) (drop_missing _ ∙ current_missing)

    -- so rule 6's answer, which rule 8's 'U missing' and outputs 17 and 18 go by, is missing there and nowhere else
    pub missing_exactly : (organs : List Organ) (counted : ℕ) (c : Contacts) → levels.is_missing (sensed_of s organs counted i c).assessed.level ≡ u_missing s i
    unfolding sensed_of observed_of assessed_of
    missing_exactly organs counted c = level_missing s _ _ ∙ u_missing_lem
