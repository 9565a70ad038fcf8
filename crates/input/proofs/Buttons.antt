-- The keys of a tick (02, ticket 7).
-- Assumes nothing.
use mathlib.Core.Path.{◌≡◌}
use mathlib.Core.Bool.{Bool}
use Prim.Native.Nat.{ℕ}
use Rattle.keys.specs.declared.Buttons.{Buttons}
use Rattle.input.specs.Brought.{bit_of, contacts_of}

-- a pair whose two buttons are alike on two ticks
same_pair : {a b c d : Bool} → a ≡ b → c ≡ d → ◌≡◌ {A = Buttons} (record { raise = a; lower = c }) (record { raise = b; lower = d })
same_pair p q = λ i. record { raise = p i; lower = q i }

-- "each pair remembers its own previous tick in both modes": each pair is read by its own two bits, whatever the mode
module _ (n m : ℕ) where
  pub panel_in_both_modes : bit_of n 19 ≡ bit_of m 19 → bit_of n 20 ≡ bit_of m 20 → (contacts_of n).keys.panel ≡ (contacts_of m).keys.panel
  panel_in_both_modes p q = same_pair p q

  pub read_in_both_modes : bit_of n 22 ≡ bit_of m 22 → bit_of n 23 ≡ bit_of m 23 → (contacts_of n).keys.dispatcher ≡ (contacts_of m).keys.dispatcher
  read_in_both_modes p q = same_pair p q
