-- The worked values of the drop and of U, as one list and one statement (01, 'Bench values'; those of U, and of the drop by two ratings, go
-- beyond the paper's). A star that gives no ratings has 1,250 A for both, which is 01's case.
use Rattle.std.specs.Prelude.{◌≡◌, refl, List, [], ◌∷◌, map, ℕ, ℤ, pos, negsuc, Option, None, Some, set, replicate}
use Rattle.common.specs.Choice.{choose}
use Rattle.slots.specs.Slots.{slots, module_kind, compensation, compensation_current, u_comp, ct_rating, breaker_rating}
use Rattle.measure.specs.declared.Measured.{Measured}
use Rattle.measure.specs.declared.Measured.TheVariants.{Good, Held}
use Rattle.sheet_ranges.specs.Table.{module_factor}
use Rattle.busbar_current.specs.Current.{good_of, both, picked_of, current_of}
use Rattle.busbar_compensation.specs.Voltage.{drop_of, is_rating, is_rated, voltage_drop, voltage_of}

-- a slot and its number
infix 50 ◌is◌
pub data Entry : Type 0 where
  ◌is◌ : ℕ → ℕ → Entry

-- a sheet of zeros but for the entries
abbrev pub sheet : List Entry → List ℕ
sheet [] = replicate slots 0
sheet ((i is n) ∷ rest) = set (sheet rest) i n

-- U_comp, the module's slot and I, and the drop
-- the same with the current transformer's rating over the breaker's (02, ticket 5)
-- U_comp, the module's slot, U_AB, I_bus and I_coupler with I their difference, and U
pub data Star : Type 0 where
  drop_star : ℕ → ℕ → ℤ → ℤ → Star
  rated_star : ℕ → ℕ → ℕ → ℕ → ℤ → ℤ → Star
  voltage_star : ℕ → ℕ → Measured → Measured → Measured → Option ℤ → Star

abbrev pub stars : List Star
stars =
    drop_star 5100 1 (negsuc 2) (negsuc 2)
    -- −30,600,000 over 6,250,000 is −4.896
    ∷ rated_star 5100 1 2000 1250 (negsuc 2) (negsuc 3)
    -- with the ratings the other way round −19,125,000 over 10,000,000, that is −1.9125
    ∷ rated_star 5100 1 1250 2000 (negsuc 2) (negsuc 0)
    -- −60.384; divided first by 1,000k it would be −37, and then −59
    ∷ rated_star 5100 1 2000 1250 (negsuc 36) (negsuc 59)
    -- the largest that a sheet and readings give
    ∷ rated_star 40000 0 20000 1 (pos 80000) (pos 64000000000)
    ∷ voltage_star 5100 1 (Good 100000) (Good 1) (Good 4) (Some (pos 100003))
    ∷ voltage_star 5100 1 (Good 100000) (Good 4) (Good 1) (Some (pos 99997))
    ∷ voltage_star 5100 0 (Good 100000) (Good 1) (Good 4) (Some (pos 100015))
    ∷ voltage_star 5100 1 (Held 100000) (Good 1) (Good 4) None
    ∷ voltage_star 5100 1 (Good 100000) (Good 1) (Held 4) None
    ∷ []

abbrev pub expected : Star → Option ℤ
expected (drop_star comp kind i z) = Some z
expected (rated_star comp kind ct breaker i z) = Some z
expected (voltage_star comp kind ab bus coupler u) = u

abbrev pub rated_sheet : ℕ → ℕ → ℕ → ℕ → List ℕ
rated_sheet comp kind ct breaker =
    sheet
    ((u_comp is comp) ∷ (module_kind is kind) ∷ (compensation is 1) ∷ (compensation_current is 2) ∷ (ct_rating is ct) ∷ (breaker_rating is breaker) ∷ [])

abbrev pub drop_sheet : ℕ → ℕ → List ℕ
drop_sheet comp kind = rated_sheet comp kind 1250 1250

abbrev pub found : Star → Option ℤ
found (drop_star comp kind i z) = voltage_drop (drop_sheet comp kind) (Some i)
found (rated_star comp kind ct breaker i z) = voltage_drop (rated_sheet comp kind ct breaker) (Some i)
found (voltage_star comp kind ab bus coupler u) = voltage_of (drop_sheet comp kind) ab bus coupler

pub stars_are : map found stars ≡ map expected stars
unfolding choose good_of both picked_of current_of module_factor drop_of is_rating is_rated voltage_drop voltage_of
stars_are = refl
