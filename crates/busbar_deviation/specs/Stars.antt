-- The worked values of the level, as one list and one statement (01, 'Bench values').
use Rattle.std.specs.Prelude.{◌≡◌, refl, false, List, [], ◌∷◌, map, ℕ, pos, Option, Some, set, replicate}
use Rattle.common.specs.Choice.{choose}
use Rattle.slots.specs.Slots.{slots, u_supp, d_u}
use Rattle.busbar_level.specs.declared.Level.{Level}
use Rattle.busbar_level.specs.declared.Level.TheVariants.{Low, InBand, High}
use Rattle.busbar_deviation.specs.Deviation.{supply_of, low_of, high_of, band_of, level_of}

-- U_supp, dU and U, and U's level
pub data Star : Type 0 where
  star : ℕ → ℕ → ℕ → Level → Star

abbrev pub stars : List Star
stars =
    star 100000 2000 99000 Low
    ∷ star 100000 2000 99001 InBand
    ∷ star 100000 2000 100999 InBand
    ∷ star 100000 2000 101000 High
    ∷ []

abbrev pub expected : Star → Option Level
expected (star supp d u l) = Some l

-- a sheet of zeros but for U_supp and dU
abbrev pub sheet : ℕ → ℕ → List ℕ
sheet supp d = set (set (replicate slots 0) u_supp supp) d_u d

abbrev pub found : Star → Option Level
found (star supp d u l) = level_of (sheet supp d) (Some (pos u)) (supply_of (sheet supp d) false false false)

pub stars_are : map found stars ≡ map expected stars
unfolding choose supply_of low_of high_of band_of level_of
stars_are = refl
