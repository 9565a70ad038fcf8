-- A fault in numbers: the number of each case, and the case of each number. Definitions only.
use Rattle.std.specs.Prelude.{ℕ, Bool, leb, eqb, Option, None, Some}
use Rattle.common.specs.Choice.{choose}
use Rattle.fault.specs.declared.Fault.{Fault}
use Rattle.fault.specs.declared.Fault.TheVariants.{RunAway, NotStarted, Long, Fast}

abbrev pub fault_number : Option Fault → ℕ
fault_number None = 0
fault_number (Some RunAway) = 1
fault_number (Some NotStarted) = 2
fault_number (Some Long) = 3
fault_number (Some Fast) = 4

abbrev pub is_fault : ℕ → Bool
is_fault n = leb n 4

unfoldable pub fault_of : ℕ → Option Fault
fault_of n =
    choose (eqb n 0) None (choose (eqb n 1) (Some RunAway) (choose (eqb n 2) (Some NotStarted) (choose (eqb n 3) (Some Long) (Some Fast))))
