-- The record of some settings and a state. Definitions only.
use Rattle.std.specs.Prelude.{ℕ, List}
use Rattle.record.specs.declared.Regulator.{Regulator}
use Rattle.record.specs.declared.State.{State}

abbrev pub regulator_of : List ℕ → State → Regulator
regulator_of s m = record { settings = s; state = m }
