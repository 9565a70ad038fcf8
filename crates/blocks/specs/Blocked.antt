-- Rule 8 of 01: the blocks. Definitions only.
use Rattle.std.specs.Prelude.{ℕ, Bool, false, not, ◌&&◌, ◌||◌, List, get_or, eqb}
use Rattle.slots.specs.Slots.{slot, tap_source, current_organs, voltage_organs, end_tap_block, organs_block_manual, n_l, n_r}
use Rattle.ways.specs.declared.Direction.{Direction}
use Rattle.ways.specs.declared.Direction.TheVariants.{Raise, Lower}
use Rattle.input.specs.declared.Contacts.{Contacts}
use Rattle.blocks.specs.declared.Found.{Found}
use Rattle.blocks.specs.declared.Blocks.{Blocks}

-- "common: bits 2–5, 8, 9, 15, a fault"
abbrev pub common_of : Contacts → Bool → Bool
common_of c fault =
    c.supply_off || c.oil_cold || c.oil_low || c.oil_high || c.overcurrent || c.external_block || c.local_drive || fault

abbrev pub reversed_of : List ℕ → Bool
reversed_of s = eqb (slot s tap_source) 4

-- "with slot 15, raise at tap N_R and lower at N_L, the other way round if slot 5 is 4": at the end, or at the other
unfoldable pub end_of : List ℕ → ℕ → ℕ → ℕ → Bool
end_of s tap end other = eqb (slot s end_tap_block) 1 && (not (reversed_of s) && eqb tap end || reversed_of s && eqb tap other)

-- the trip of the organ at a place, 0 for organ 6
abbrev pub trip_of : List Bool → ℕ → Bool
trip_of t i = get_or t i false

-- "trips of organs 6–8 if slot 13 is 0, 9–12 if slot 14 is 0"
unfoldable pub organs_automatic_of : List ℕ → List Bool → Bool
organs_automatic_of s t =
    eqb (slot s current_organs) 0 && (trip_of t 0 || trip_of t 1 || trip_of t 2)
    || eqb (slot s voltage_organs) 0 && (trip_of t 3 || trip_of t 4 || trip_of t 5 || trip_of t 6)

-- "any trip"
unfoldable pub any_trip_of : List Bool → Bool
any_trip_of t = trip_of t 0 || trip_of t 1 || trip_of t 2 || trip_of t 3 || trip_of t 4 || trip_of t 5 || trip_of t 6

-- "tap 0 if slot 15 is 1 and slot 5 is not 0"
unfoldable pub tap_lost_of : List ℕ → ℕ → Bool
tap_lost_of s tap = eqb tap 0 && eqb (slot s end_tap_block) 1 && not (eqb (slot s tap_source) 0)

-- "automatic: common, no section, U missing, trips .., tap 0 .."
abbrev pub automatic_of : List ℕ → Contacts → Found → Bool
automatic_of s c f =
    common_of c f.fault || not f.section || f.u_missing || organs_automatic_of s f.trips || tap_lost_of s f.tap

-- "manual: common; any trip if slot 18"
abbrev pub manual_of : List ℕ → Contacts → Found → Bool
manual_of s c f = common_of c f.fault || eqb (slot s organs_block_manual) 1 && any_trip_of f.trips

-- "raise: 6, 10; lower: 7, 11", each with common
abbrev pub raise_of : List ℕ → Contacts → Found → Bool
raise_of s c f = common_of c f.fault || c.end_up || c.raise_block || end_of s f.tap (slot s n_r) (slot s n_l)

abbrev pub lower_of : List ℕ → Contacts → Found → Bool
lower_of s c f = common_of c f.fault || c.end_down || c.lower_block || end_of s f.tap (slot s n_l) (slot s n_r)

unfoldable pub blocks_of : List ℕ → Contacts → Found → Blocks
blocks_of s c f = record { automatic = automatic_of s c f; manual = manual_of s c f; raise = raise_of s c f; lower = lower_of s c f }

-- the direction's own block
abbrev pub opposed_of : Blocks → Direction → Bool
opposed_of b Raise = b.raise
opposed_of b Lower = b.lower
