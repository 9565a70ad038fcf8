-- A line of numbers as text. Definitions only.
use Rattle.std.specs.Prelude.{ℕ, zero, suc, ◌+◌, ◌*◌, ◌/◌, ◌%◌, Bool, List, [], ◌∷◌, ◌++◌, ltb, leb, length, take, drop}
use Rattle.common.specs.Choice.{choose}

-- the most digits of a 32-bit number
abbrev pub most_digits : ℕ
most_digits = 10

-- the most bytes that a number takes, with what stands after it
abbrev pub widest : ℕ
widest = most_digits + 1

-- "decimal": the last k digits of a number in ASCII, the highest first, without zeros in front; 0 is "0"
unfoldable pub digits_of : ℕ → ℕ → List ℕ
digits_of zero n = []
digits_of (suc k) n = choose (ltb n 10) ((48 + n) ∷ []) (digits_of k (n / 10) ++ ((48 + n % 10) ∷ []))

-- all digits of a 32-bit number
unfoldable pub decimal_of : ℕ → List ℕ
decimal_of n = digits_of most_digits n

-- "split by single blanks": a blank, and a line's end after the last
abbrev pub mark_of : List ℕ → ℕ
mark_of [] = 10
mark_of (n ∷ ns) = 32

-- "one line": each number and what stands after it
unfoldable pub line_of : List ℕ → List ℕ
line_of [] = []
line_of (n ∷ ns) = decimal_of n ++ (mark_of ns ∷ line_of ns)

-- whether there is room for as many numbers of the greatest width
abbrev pub has_room : List ℕ → List ℕ → ℕ → Bool
has_room ns out at = leb (at + widest * length ns) (length out)

-- the bytes from a place on replaced by the text
abbrev pub placed : List ℕ → ℕ → List ℕ → List ℕ
placed out at text = take at out ++ text ++ drop (at + length text) out

unfoldable pub written_of : List ℕ → List ℕ → ℕ → List ℕ
written_of ns out at = choose (has_room ns out at) (placed out at (line_of ns)) out

unfoldable pub end_of : List ℕ → List ℕ → ℕ → ℕ
end_of ns out at = choose (has_room ns out at) (at + length (line_of ns)) at
