-- What the organs of rule 5 do over one tick.
use Rattle.std.specs.Prelude.{ℕ, ◌+◌, ◌*◌, Bool, true, false, ◌&&◌, List, ltb, leb, Option, Some, None}
use Rattle.common.specs.Choice.{choose}
use Rattle.common.specs.Places.{zip}
use Rattle.organ.specs.declared.Organ.{Organ}
use Rattle.organ.specs.declared.Side.{Side}
use Rattle.organ.specs.declared.Side.TheVariants.{Over, Under}
use Rattle.organ.specs.declared.OrganInput.{OrganInput}
use Rattle.organ.specs.declared.Stepped.{Stepped}
use Rattle.organ.specs.declared.Organs.{Organs}

-- over: marked if value > set, cleared if 20 × value < 19 × set, else kept
abbrev pub over_of : Bool → ℕ → ℕ → Bool
over_of was value set = choose (ltb set value) true (choose (ltb (20 * value) (19 * set)) false was)

-- under: marked if value < set, cleared if 20 × value > 21 × set, else kept
abbrev pub under_of : Bool → ℕ → ℕ → Bool
under_of was value set = choose (ltb value set) true (choose (ltb (21 * set) (20 * value)) false was)

-- the mark by a value, on either side of the limit
abbrev pub marked_of : Bool → Side → ℕ → ℕ → Bool
marked_of was Over value set = over_of was value set
marked_of was Under value set = under_of was value set

-- the mark by what the tick brings; off, no section or missing, so no value: cleared
abbrev pub mark_by : Bool → Side → Option ℕ → ℕ → Bool
mark_by was side (Some value) limit = marked_of was side value limit
mark_by was side None limit = false

-- the mark after the tick
abbrev pub mark_of : Bool → OrganInput → Bool
mark_of was x = mark_by was x.side x.value x.limit

-- the count after the tick: the marked ticks in a row, held at the delay
abbrev pub count_of : Bool → ℕ → ℕ → ℕ
count_of marked before delay = choose marked (choose (ltb before delay) (before + 1) delay) 0

-- the organ after the tick
unfoldable pub organ_of : Organ → OrganInput → Organ
organ_of o x = record { marked = mark_of o.marked x; count = count_of (mark_of o.marked x) o.count x.delay }

-- a trip: a marked tick with at least the delay of marked ticks directly before
unfoldable pub trip_of : Organ → OrganInput → Bool
trip_of o x = mark_of o.marked x && leb x.delay o.count

-- both
abbrev pub stepped_of : Organ → OrganInput → Stepped
stepped_of o x = record { organ = organ_of o x; trip = trip_of o x }

-- both, at every place
abbrev pub all_stepped_of : List Organ → List OrganInput → Organs
all_stepped_of os xs = record { organs = zip organ_of os xs; trips = zip trip_of os xs }
