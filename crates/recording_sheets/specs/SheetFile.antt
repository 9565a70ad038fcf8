-- A sheet's file, by its bytes. Definitions only.
use Rattle.std.specs.Prelude.{ℕ, ◌*◌, Bool, List, [], eqb, length, Option, Some, None}
use Rattle.common.specs.Choice.{choose}
use Rattle.common.specs.Places.{tab}
use Rattle.slots.specs.Slots.{slots}
use Rattle.recording_numbers.specs.Numbers.{number_bytes, number_at}

-- bytes of a sheet's file: "4 × the sheet's length"
abbrev pub sheet_bytes : ℕ
sheet_bytes = number_bytes * slots

-- "SHEET is a file of 32-bit numbers, least byte first": the number at a slot
unfoldable pub number_in : List ℕ → ℕ → ℕ
number_in s i = number_at s (number_bytes * i)

unfoldable pub numbers_of : List ℕ → List ℕ
numbers_of s = tab (number_in s) slots

-- whether the file is as long as a sheet's
abbrev pub is_whole : List ℕ → Bool
is_whole s = eqb (length s) sheet_bytes

-- the numbers, where it is
unfoldable pub sheet_file_of : List ℕ → Option (List ℕ)
sheet_file_of s = choose (is_whole s) (Some (numbers_of s)) None

-- the list that is checked: "a file whose length is not 4 × the sheet's length is refused with 1", as a list of another length than the sheet's is
unfoldable pub list_of : List ℕ → List ℕ
list_of s = choose (is_whole s) (numbers_of s) []
