-- The parts make the whole: over plain values, as the function has them, and `search` finds it.
-- Assumes nothing.
use mathlib.Core.Path.{◌≡◌}
use mathlib.Core.List.{List}
use Prim.Native.Nat.{ℕ}
use Rattle.input.specs.declared.Contacts.{Contacts}
use Rattle.input.specs.declared.Input.{Input}
use Rattle.organ.specs.declared.Organ.{Organ}
use Rattle.organ.specs.declared.Organs.{Organs}
use Rattle.sensing_observing.specs.declared.Observed.{Observed}
use Rattle.sensing_observing.specs.Observing.{observed_of}
use Rattle.sensing_protecting.specs.Protecting.{protected_of}
use Rattle.sensing_assessing.specs.declared.Assessed.{Assessed}
use Rattle.sensing_assessing.specs.Assessing.{assessed_of}
use Rattle.sensing.specs.declared.Sensed.{Sensed}
use Rattle.sensing.specs.Sensing.{sensed_of}

-- rules 3 to 6
module _ (s : List ℕ) (organs : List Organ) (counted : ℕ) (i : Input) (c : Contacts) where
  pub sense_made : {o : Observed} {g : Organs} {a : Assessed}
      → o ≡ observed_of s i c.breaker_closed counted
      → g ≡ protected_of s organs o.readings o.section
      → a ≡ assessed_of s o.readings i.phasors c
      → ◌≡◌ {A = Sensed} (record { observed = o; organs = g; assessed = a }) (sensed_of s organs counted i c)
  unfolding sensed_of
  sense_made p q u = rw (← p, q, u)
