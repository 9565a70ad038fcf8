-- The outputs of 01, by field. Definitions only.
use Rattle.std.specs.Prelude.{ℕ, Bool, true, false, not, ◌&&◌, ◌||◌, List, [], ◌∷◌, get_or, leb, eqb, Option, None, Some}
use Rattle.common.specs.Choice.{choose}
use Rattle.slots.specs.Slots.{slot, supply_trip, wear_count, t7, t8, n_max}
use Rattle.busbar_level.specs.declared.Level.{Level}
use Rattle.busbar_level.specs.declared.Level.TheVariants.{Low, InBand, High}
use Rattle.drive_follow.specs.Follow.{rests_of}
use Rattle.fault.specs.Latches.{supply_of, field_of}
use Rattle.drive_shown.specs.Shown.{on_of}
use Rattle.ways.specs.Ways.{raises, lowers}
use Rattle.tap_position.specs.Positions.{tap_of, is_wrong_code, is_range_error}
use Rattle.showing.specs.declared.Shown.{Shown}
use Rattle.showing.specs.declared.Signals.{Signals}

-- how many outputs there are
abbrev pub field_count : ℕ
field_count = 28

-- a flag as an output
abbrev pub bit_of : Bool → ℕ
bit_of true = 1
bit_of false = 0

abbrev pub is_low : Option Level → Bool
is_low None = false
is_low (Some Low) = true
is_low (Some InBand) = false
is_low (Some High) = false

abbrev pub is_high : Option Level → Bool
is_high None = false
is_high (Some Low) = false
is_high (Some InBand) = false
is_high (Some High) = true

-- "25, 26 are 0 without slot 17"
unfoldable pub counted_of : Bool → ℕ → ℕ
counted_of counts n = choose counts n 0

abbrev pub counts_of : List ℕ → Bool
counts_of s = eqb (slot s wear_count) 1

-- the command that is on, the level, the fault and its supply trip, the drive, the operations
unfoldable pub signals_of : List ℕ → Shown → Signals
signals_of s x =
    record {
      raise = raises (on_of x.drive (slot s t7));
      lower = lowers (on_of x.drive (slot s t7));
      low = is_low x.level;
      high = is_high x.level;
      field = field_of x.latch.fault;
      supply = supply_of x.latch.fault x.before (slot s t8) (eqb (slot s supply_trip) 1);
      rests = rests_of x.drive;
      operations = counted_of (counts_of s) x.operations;
    }

-- "outputs by field"
unfoldable pub fields_of : List ℕ → Shown → Signals → List ℕ
fields_of s x g =
    -- 0 raise, 1 lower
    bit_of g.raise
    ∷ bit_of g.lower
    -- 2 section, 3 tap, 4 wrong code, 5 range error
    ∷ bit_of x.section
    ∷ tap_of x.position
    ∷ bit_of (is_wrong_code x.position)
    ∷ bit_of (is_range_error x.position || x.counted_error)
    -- 6–12 trips
    ∷ bit_of (get_or x.trips 0 false)
    ∷ bit_of (get_or x.trips 1 false)
    ∷ bit_of (get_or x.trips 2 false)
    ∷ bit_of (get_or x.trips 3 false)
    ∷ bit_of (get_or x.trips 4 false)
    ∷ bit_of (get_or x.trips 5 false)
    ∷ bit_of (get_or x.trips 6 false)
    -- 13–16 automatic, manual, raise, lower blocked
    ∷ bit_of x.blocks.automatic
    ∷ bit_of x.blocks.manual
    ∷ bit_of x.blocks.raise
    ∷ bit_of x.blocks.lower
    -- 17 low, 18 high
    ∷ bit_of g.low
    ∷ bit_of g.high
    -- 19–22 run-away, not started, long, fast
    ∷ bit_of (eqb g.field 19)
    ∷ bit_of (eqb g.field 20)
    ∷ bit_of (eqb g.field 21)
    ∷ bit_of (eqb g.field 22)
    -- 23 supply trip
    ∷ bit_of g.supply
    -- 24 asked or moving
    ∷ bit_of (not g.rests)
    -- 25 operations, 26 operations ≥ N_max
    ∷ g.operations
    ∷ bit_of (counts_of s && leb (slot s n_max) x.operations)
    -- 27 automatic
    ∷ bit_of x.automatic
    ∷ []

unfoldable pub outputs_of : List ℕ → Shown → List ℕ
outputs_of s x = fields_of s x (signals_of s x)
