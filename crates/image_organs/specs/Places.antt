-- The seven organs in numbers. Definitions only.
use Rattle.std.specs.Prelude.{ℕ, Bool, List, map, eqb}
use Rattle.common.specs.Places.{zip, every}
use Rattle.organ.specs.declared.Organ.{Organ}
use Rattle.image_organs.specs.declared.OrganNumbers.{OrganNumbers}
use Rattle.coding_flag.specs.Numbers.{bit_of, is_bit}

unfoldable pub mark_of : Organ → ℕ
mark_of o = bit_of o.marked

unfoldable pub count_of : Organ → ℕ
count_of o = o.count

unfoldable pub organ_numbers : List Organ → OrganNumbers
organ_numbers os = record { marks = map mark_of os; counts = map count_of os }

unfoldable pub organ_of : ℕ → ℕ → Organ
organ_of mark count = record { marked = eqb mark 1; count = count }

unfoldable pub organs_of : List ℕ → List ℕ → List Organ
organs_of marks counts = zip organ_of marks counts

unfoldable pub are_marks : List ℕ → Bool
are_marks marks = every (map is_bit marks)
