-- The bench values of the organs (★), as one list and one statement.
use Rattle.std.specs.Prelude.{ℕ, ◌-◌, ◌≡◌, refl, Bool, true, false, List, [], ◌∷◌, map, replicate}
use Rattle.common.specs.Choice.{choose}
use Rattle.organ.specs.Organs.{organ_of, trip_of}
use Rattle.organ.specs.Runs.{cleared, over_tick, run_of}

-- `over`: a marked over organ's limit, a value, and whether it is marked after it.
-- `trip`: a delay, the number of a marked tick in a row from a cleared organ, the first being 1, and whether it trips.
pub data Star : Type 0 where
  over : ℕ → ℕ → Bool → Star
  trip : ℕ → ℕ → Bool → Star

abbrev pub stars : List Star
stars =
    over 120000 114000 true
    ∷ over 120000 113999 false
    ∷ trip 10 10 false
    ∷ trip 10 11 true
    ∷ trip 0 1 true
    ∷ []

abbrev pub expected : Star → Bool
expected (over limit value answer) = answer
expected (trip delay tick answer) = answer

abbrev pub found : Star → Bool
found (over limit value answer) = (organ_of (record { marked = true; count = 0 }) (over_tick limit value 0)).marked
found (trip delay tick answer) = trip_of (run_of cleared (replicate (tick - 1) (over_tick 0 1 delay))) (over_tick 0 1 delay)

pub stars_are : map found stars ≡ map expected stars
unfolding choose organ_of trip_of run_of
stars_are = refl
