-- Rule 4 of 01: the tap. Definitions only.
use Rattle.std.specs.Prelude.{ℕ, ◌+◌, ◌*◌, ◌/◌, ◌%◌, Bool, true, false, ◌&&◌, ◌||◌, List, ltb, leb, eqb, Result, Ok, Err}
use Rattle.common.specs.Choice.{choose}
use Rattle.slots.specs.Slots.{slot, tap_source, n_l, n_r}
use Rattle.tap_position.specs.declared.TapError.{TapError}
use Rattle.tap_position.specs.declared.TapError.TheVariants.{WrongCode, OutOfRange}

-- a position is a tap with nothing wrong about it, 0 where none is read, or what is wrong; its tap is then 0
abbrev pub Position : Type 0
Position = Result ℕ TapError

abbrev pub tap_of : Position → ℕ
tap_of (Ok n) = n
tap_of (Err e) = 0

abbrev pub is_wrong_code : Position → Bool
is_wrong_code (Ok n) = false
is_wrong_code (Err WrongCode) = true
is_wrong_code (Err OutOfRange) = false

abbrev pub is_range_error : Position → Bool
is_range_error (Ok n) = false
is_range_error (Err WrongCode) = false
is_range_error (Err OutOfRange) = true

-- a tap with nothing wrong about it
abbrev pub plain_of : ℕ → Position
plain_of n = Ok n

-- a number "outside N_L–N_R is a range error", and gives tap 0
unfoldable pub ranged_of : List ℕ → ℕ → Position
ranged_of s n =
    choose (leb (slot s n_l) n && leb n (slot s n_r)) (plain_of n) (Err OutOfRange)

-- "BCD lines (bits 0–3 units, 4–6 tens, 7 ignored)"; "units above 9 are a wrong code, no range error", and give tap 0
unfoldable pub bcd_of : List ℕ → ℕ → Position
bcd_of s lines =
    choose (ltb 9 (lines % 16)) (Err WrongCode)
    (ranged_of s (10 * (lines / 16 % 8) + lines % 16))

-- "only slot 5's source being read": 0 nothing, 1 BCD, 2 sensor, 3 counted, 4 counted reversed
unfoldable pub position_of : List ℕ → ℕ → ℕ → ℕ → Position
position_of s bcd sensor counted =
    choose (eqb (slot s tap_source) 1) (bcd_of s bcd)
    (choose (eqb (slot s tap_source) 2) (ranged_of s sensor)
    (choose (eqb (slot s tap_source) 3 || eqb (slot s tap_source) 4) (plain_of counted) (plain_of 0)))
