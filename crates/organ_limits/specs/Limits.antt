-- The limits of the organs of a record.
use Rattle.std.specs.Prelude.{ℕ, Bool, ◌&&◌, ◌||◌, List, leb, eqb}
use Rattle.common.specs.Places.{zip, every}
use Rattle.organ.specs.declared.Organ.{Organ}

-- the count is at most the delay, and 0 if not marked
unfoldable pub organ_within : ℕ → Organ → Bool
organ_within delay o = leb o.count delay && (o.marked || eqb o.count 0)

-- each organ is within the limits at its own delay
unfoldable pub organs_within : List ℕ → List Organ → Bool
organs_within delays organs = every (zip organ_within delays organs)
