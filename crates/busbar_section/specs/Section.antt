-- Rule 3 of 01: the section. Definitions only.
use Rattle.std.specs.Prelude.{ℕ, Bool, false, not, ◌&&◌, ◌||◌, List, ltb, eqb}
use Rattle.slots.specs.Slots.{slot, section_needs_current, i_set3}
use Rattle.measure.specs.declared.Measured.{Measured}
use Rattle.measure.specs.declared.Measured.TheVariants.{Good, Held, Missing}

-- "Good .. above": a Held number or none does not count
abbrev pub good_above : Measured → ℕ → Bool
good_above (Good n) limit = ltb limit n
good_above (Held n) limit = false
good_above Missing limit = false

-- "breaker closed and, with slot 2, Good I_bus above I_set3"
unfoldable pub section_of : List ℕ → Bool → Measured → Bool
section_of s closed bus = closed && (not (eqb (slot s section_needs_current) 1) || good_above bus (slot s i_set3))
