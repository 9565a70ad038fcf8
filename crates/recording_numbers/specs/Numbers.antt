-- Numbers and floats in a file. Definitions only.
use Rattle.std.specs.Prelude.{ℕ, ◌+◌, ◌*◌, List, get_or, Float}
use Rattle.std.specs.Float.{binary32}
use Rattle.std.specs.Float.Ieee.{of_bits}

-- bytes of a number
abbrev pub number_bytes : ℕ
number_bytes = 4

-- "32-bit numbers, least byte first": the number of the four bytes from a place on
unfoldable pub number_at : List ℕ → ℕ → ℕ
number_at s at = get_or s at 0 + 0x100 * get_or s (at + 1) 0 + 0x1_0000 * get_or s (at + 2) 0 + 0x100_0000 * get_or s (at + 3) 0

-- "four float bytes, least first": the pattern's number. `of_bits` takes every NaN pattern to `nan`.
unfoldable pub float_at : List ℕ → ℕ → Float
float_at s at = of_bits binary32 (number_at s at)
