-- The current along the line, as a pair (02, ticket 3). Definitions only.
use Rattle.std.specs.Prelude.{ℕ, Option, List, eqb, ℤ, ◌+ℤ◌, ◌-ℤ◌}
use Rattle.slots.specs.Slots.{slot, module_kind}
use Rattle.measure.specs.declared.Channel.{Channel}
use Rattle.measure.specs.Readings.{limit_of}
use Rattle.phasor.specs.declared.Phasors.{Phasors}
use Rattle.phasor.specs.declared.Vector.{Vector}
use Rattle.phasor.specs.Pairs.{vector_of}
use Rattle.input.specs.Brought as brought
use Rattle.busbar_current.specs.Current.{both, parts, picked_of}

-- of two pairs, each of which is needed, "part by part"
abbrev pub by_parts : (ℤ → ℤ → ℤ) → Option Vector → Option Vector → Option Vector
by_parts f = both (parts f)

abbrev pub sum_of : Option Vector → Option Vector → Option Vector
sum_of a b = by_parts ◌+ℤ◌ a b

abbrev pub difference_of : Option Vector → Option Vector → Option Vector
difference_of a b = by_parts ◌-ℤ◌ a b

-- the current's channel, by the module of slot 1
abbrev pub amperes : List ℕ → Channel
amperes s = brought.current_of (eqb (slot s module_kind) 1)

-- "The current is picked by slot 4, part by part", as in 01
unfoldable pub current_of : List ℕ → Phasors → Option Vector
current_of s p = picked_of by_parts s (vector_of (limit_of (amperes s)) p.i_bus) (vector_of (limit_of (amperes s)) p.i_coupler)
