-- What a tick brings, as it counts; rules 3 and 4 of 01 on it. Definitions only.
use Rattle.std.specs.Prelude.{ℕ, Bool, List, eqb}
use Rattle.slots.specs.Slots.{slot, module_kind}
use Rattle.input.specs.declared.Input.{Input}
use Rattle.input.specs.declared.Readings.{Readings}
use Rattle.input.specs.Brought.{readings_of}
use Rattle.busbar_section.specs.Section.{section_of}
use Rattle.tap_position.specs.Positions.{position_of}
use Rattle.sensing_observing.specs.declared.Observed.{Observed}

-- the readings as they count, by the module of slot 1
abbrev pub counts_of : List ℕ → Input → Readings
counts_of s i = readings_of i (eqb (slot s module_kind) 1)

-- rules 3 and 4
unfoldable pub observed_of : List ℕ → Input → Bool → ℕ → Observed
observed_of s i closed counted =
    record {
      readings = counts_of s i;
      section = section_of s closed (counts_of s i).i_bus;
      position = position_of s i.bcd i.sensor counted;
    }
