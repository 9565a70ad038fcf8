-- The sliding taps of 01, slots 53–62. Definitions only.
use Rattle.std.specs.Prelude.{ℕ, zero, suc, ◌+◌, Bool, false, not, ◌&&◌, ◌||◌, List, eqb}
use Rattle.slots.specs.Slots.{slot, sliding_taps}

-- whether the tap stands in one of the first n slots for sliding taps
unfoldable pub stands_in : List ℕ → ℕ → ℕ → Bool
stands_in s tap zero = false
stands_in s tap (suc n) = stands_in s tap n || eqb (slot s (sliding_taps + n)) tap

-- the slots for sliding taps, 53–62
abbrev pub sliding : ℕ
sliding = 10

-- the tap stands in one of the ten; "0 = empty", so tap 0 is no sliding one
unfoldable pub sliding_of : List ℕ → ℕ → Bool
sliding_of s tap = stands_in s tap sliding && not (eqb tap 0)
