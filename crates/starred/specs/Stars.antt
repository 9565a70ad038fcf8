-- The worked values that 01 marks with a star, as one list with one statement.
use Rattle.std.specs.Prelude.{◌≡◌, refl, Bool, true, List, [], ◌∷◌, ◌++◌, Option, map, ℕ, ◌-◌, ℤ, set, replicate}
use Rattle.std.specs.Float.Ieee.{of_bits}
use Rattle.slots.specs.Slots.{t1}
use Rattle.measure.specs.Stars as reading-stars
use Rattle.measure.specs.declared.Measured.{Measured}
use Rattle.busbar_compensation.specs.Stars as voltage-stars
use Rattle.busbar_level.specs.declared.Level.{Level}
use Rattle.busbar_deviation.specs.Stars as level-stars
use Rattle.tap_position.specs.Stars as tap-stars
use Rattle.tap_position.specs.Positions.{Position}
use Rattle.organ.specs.Stars as organ-stars
use Rattle.claim.specs.Claim.{Tick, output}
use Rattle.rules.specs.Lists.{ticks_from}
use Rattle.rules.proofs.Opened.{opened}
use Rattle.claim.specs.Scenes.{plain_sheet, low_open}
use Rattle.record_starting.specs.Starting as record-starting

-- readings; the voltage and its band; the tap; the organs; and, for a T1, the tick of a low voltage from the fresh record on which raise is on
pub data Star : Type 0 where
  reading : reading-stars.Star → Star
  level : level-stars.Star → Star
  voltage : voltage-stars.Star → Star
  tap : tap-stars.Star → Star
  organ : organ-stars.Star → Star
  raising : ℕ → ℕ → Star

pub data Shown : Type 0 where
  reading : Measured → Shown
  level : Option Level → Shown
  voltage : Option ℤ → Shown
  tap : Position → Shown
  organ : Bool → Shown
  raising : List ℕ → Shown

abbrev pub stars : List Star
stars =
    map Star.reading reading-stars.stars
    ++ map Star.level level-stars.stars
    ++ map Star.voltage voltage-stars.stars
    ++ map Star.tap tap-stars.stars
    ++ map Star.organ organ-stars.stars
    ++ (Star.raising 20 20 ∷ [])

abbrev pub expected : Star → Shown
expected (Star.reading s) = Shown.reading (reading-stars.expected s)
expected (Star.level s) = Shown.level (level-stars.expected s)
expected (Star.voltage s) = Shown.voltage (voltage-stars.expected s)
expected (Star.tap s) = Shown.tap (tap-stars.expected s)
expected (Star.organ s) = Shown.organ (organ-stars.expected s)
expected (Star.raising d n) = Shown.raising (replicate (n - 1) 0 ++ (1 ∷ []))

-- raise, output 0, on each of the ticks of a low voltage from the fresh record
abbrev pub raises : ℕ → ℕ → List ℕ
raises d n = map (λ (t : Tick). output 0 t) (ticks_from true (record-starting.fresh_of (set plain_sheet t1 d)) (replicate n low_open))

abbrev pub found : Star → Shown
found (Star.reading s) = Shown.reading (reading-stars.found s)
found (Star.level s) = Shown.level (level-stars.found s)
found (Star.voltage s) = Shown.voltage (voltage-stars.found s)
found (Star.tap s) = Shown.tap (tap-stars.found s)
found (Star.organ s) = Shown.organ (organ-stars.found s)
found (Star.raising d n) = Shown.raising (raises d n)

pub stars_are : map found stars ≡ map expected stars
unfolding of_bits opened
stars_are = refl
