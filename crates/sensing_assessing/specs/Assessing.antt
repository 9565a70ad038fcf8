-- Rule 6 of 01. Definitions only.
use Rattle.std.specs.Prelude.{ℕ, ℤ, List, eqb, Option}
use Rattle.common.specs.Choice.{choose}
use Rattle.slots.specs.Slots.{slot, compensation}
use Rattle.phasor.specs.declared.Phasors.{Phasors}
use Rattle.line.specs.Along.{along_of}
use Rattle.input.specs.declared.Contacts.{Contacts}
use Rattle.input.specs.declared.Readings.{Readings}
use Rattle.busbar_compensation.specs.Voltage.{voltage_of}
use Rattle.busbar_deviation.specs.Deviation.{supply_of, level_of, far_above}
use Rattle.sensing_assessing.specs.declared.Assessed.{Assessed}

-- the voltage U of the tick. 02, ticket 3: "Slot 3 takes 2": U is then the one along the line's impedance, and the reading U_AB has no
-- part in it
unfoldable pub u_of : List ℕ → Readings → Phasors → Option ℤ
u_of s x p = choose (eqb (slot s compensation) 2) (along_of s p) (voltage_of s x.u_ab x.i_bus x.i_coupler)

-- low, high or in band around the U_supp that bits 16–18 choose; U > U_set5. 02, ticket 3: "deviations are judged by this U"
unfoldable pub assessed_of : List ℕ → Readings → Phasors → Contacts → Assessed
assessed_of s x p c =
    record {
      level = level_of s (u_of s x p) (supply_of s c.u_supp2 c.u_supp3 c.u_supp4);
      far = far_above s (u_of s x p);
    }
