-- A flag in numbers: the number of each case, and the case of each number. Definitions only.
use Rattle.std.specs.Prelude.{ℕ, Bool, true, false, leb}

abbrev pub bit_of : Bool → ℕ
bit_of true = 1
bit_of false = 0

abbrev pub is_bit : ℕ → Bool
is_bit n = leb n 1
