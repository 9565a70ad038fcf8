-- Rule 5 of 01: what each of the seven organs goes by. Definitions only.
use Rattle.std.specs.Prelude.{ℕ, ◌+◌, Bool, ◌&&◌, List, [], ◌∷◌, eqb, Option, Some, None}
use Rattle.common.specs.Choice.{choose}
use Rattle.slots.specs.Slots.{slot, organs_on, organ_limits, organ_delays}
use Rattle.measure.specs.declared.Measured.{Measured}
use Rattle.measure.specs.declared.Measured.TheVariants.{Good, Held, Missing}
use Rattle.input.specs.declared.Readings.{Readings}
use Rattle.organ.specs.declared.Organ.{Organ}
use Rattle.organ.specs.declared.OrganInput.{OrganInput}
use Rattle.organ.specs.declared.Side.{Side}
use Rattle.organ.specs.declared.Side.TheVariants.{Over, Under}
use Rattle.organ.specs.declared.Organs.{Organs}
use Rattle.organ.specs.Organs.{all_stepped_of}

-- "Held feeds the organs", as Good does
unfoldable pub amount_of : Measured → Option ℕ
amount_of (Good n) = Some n
amount_of (Held n) = Some n
amount_of Missing = None

-- the organ at a place, 0 for organ 6: on by slots 6–12, limit of slots 25–31, delay T9–T15; "off, no section or missing": no value
unfoldable pub organ_input_of : List ℕ → Bool → ℕ → Side → Measured → OrganInput
organ_input_of s section k side m =
    record {
      side = side;
      value = choose (eqb (slot s (organs_on + k)) 1 && section) (amount_of m) None;
      limit = slot s (organ_limits + k);
      delay = slot s (organ_delays + k);
    }

-- "I_high over I_set1, I_bus over I_set2, I_bus under I_set3, U_AB over U_set1, U_AB under U_set2, 3U0 over U_set3, U2 over U_set4"
unfoldable pub organ_inputs_of : List ℕ → Readings → Bool → List OrganInput
organ_inputs_of s x section =
    organ_input_of s section 0 Over x.i_high
    ∷ organ_input_of s section 1 Over x.i_bus
    ∷ organ_input_of s section 2 Under x.i_bus
    ∷ organ_input_of s section 3 Over x.u_ab
    ∷ organ_input_of s section 4 Under x.u_ab
    ∷ organ_input_of s section 5 Over x.u0
    ∷ organ_input_of s section 6 Over x.u2
    ∷ []

-- each organ over the tick, and its trip
unfoldable pub protected_of : List ℕ → List Organ → Readings → Bool → Organs
protected_of s organs x section = all_stepped_of organs (organ_inputs_of s x section)
