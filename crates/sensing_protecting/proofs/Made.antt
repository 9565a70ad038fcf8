-- The parts of the rule make it: over plain values, as the function has them, and `search` finds it.
-- Assumes nothing.
use mathlib.Core.Path.{◌≡◌}
use mathlib.Core.Bool.{Bool, true, false}
use mathlib.Core.List.{List, [], ◌∷◌}
use Prim.Native.Nat.{ℕ}
use Rattle.input.specs.declared.Readings.{Readings}
use Rattle.organ.specs.declared.Organ.{Organ}
use Rattle.organ.specs.declared.OrganInput.{OrganInput}
use Rattle.organ.specs.declared.Side.TheVariants.{Over, Under}
use Rattle.organ.specs.declared.Organs.{Organs}
use Rattle.organ.specs.Organs.{all_stepped_of}
use Rattle.sensing_protecting.specs.Protecting.{organ_input_of, organ_inputs_of, protected_of}

-- rule 5
module _ (s : List ℕ) (organs : List Organ) (x : Readings) (section : Bool) where
  pub protect_made : {r : Organs} {a b c d e f g : OrganInput}
      → a ≡ organ_input_of s section 0 Over x.i_high
      → b ≡ organ_input_of s section 1 Over x.i_bus
      → c ≡ organ_input_of s section 2 Under x.i_bus
      → d ≡ organ_input_of s section 3 Over x.u_ab
      → e ≡ organ_input_of s section 4 Under x.u_ab
      → f ≡ organ_input_of s section 5 Over x.u0
      → g ≡ organ_input_of s section 6 Over x.u2
      → r ≡ all_stepped_of organs (a ∷ b ∷ c ∷ d ∷ e ∷ f ∷ g ∷ [])
      → r ≡ protected_of s organs x section
  unfolding protected_of organ_inputs_of
  protect_made pa pb pc pd pe pf pg q = rw (← pa, ← pb, ← pc, ← pd, ← pe, ← pf, ← pg) q
