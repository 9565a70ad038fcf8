-- The worked values of the tap, as one list and one statement (01, 'Bench values').
use Rattle.std.specs.Prelude.{◌≡◌, refl, Err, List, [], ◌∷◌, map, ℕ, set, replicate}
use Rattle.common.specs.Choice.{choose}
use Rattle.slots.specs.Slots.{slots, tap_source, n_l, n_r}
use Rattle.tap_position.specs.declared.TapError.TheVariants.{WrongCode}
use Rattle.tap_position.specs.Positions.{Position, plain_of, ranged_of, bcd_of, position_of}

-- BCD lines, and the position that they give where N_L is 1 and N_R 40
pub data Star : Type 0 where
  star : ℕ → Position → Star

abbrev settings : List ℕ
settings = set (set (set (replicate slots 0) tap_source 1) n_l 1) n_r 40

abbrev pub stars : List Star
stars = star 0x24 (plain_of 24) ∷ star 0x1A (Err WrongCode) ∷ []

abbrev pub expected : Star → Position
expected (star b p) = p

abbrev pub found : Star → Position
found (star b p) = position_of settings b 0 0

pub stars_are : map found stars ≡ map expected stars
unfolding position_of bcd_of ranged_of choose
stars_are = refl
