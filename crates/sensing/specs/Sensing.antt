-- Rules 3 to 6 of 01: what is there. Definitions only.
use Rattle.std.specs.Prelude.{ℕ, List}
use Rattle.input.specs.declared.Contacts.{Contacts}
use Rattle.input.specs.declared.Input.{Input}
use Rattle.organ.specs.declared.Organ.{Organ}
use Rattle.sensing.specs.declared.Sensed.{Sensed}
use Rattle.sensing_observing.specs.declared.Observed.{Observed}
use Rattle.sensing_observing.specs.Observing.{observed_of}
use Rattle.sensing_protecting.specs.Protecting.{protected_of}
use Rattle.sensing_assessing.specs.Assessing.{assessed_of}

-- rules 3 and 4 have given o; rule 5, the organs; rule 6, the voltage and its side
abbrev pub sensed_from : List ℕ → List Organ → Input → Contacts → Observed → Sensed
sensed_from s organs i c o =
    record { observed = o; organs = protected_of s organs o.readings o.section; assessed = assessed_of s o.readings i.phasors c }

unfoldable pub sensed_of : List ℕ → List Organ → ℕ → Input → Contacts → Sensed
sensed_of s organs counted i c = sensed_from s organs i c (observed_of s i c.breaker_closed counted)
