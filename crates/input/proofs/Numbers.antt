-- The contact number that has given bits: whatever the contacts and keys are, there is a number of 32 bits that brings them.
-- Assumes nothing.
use mathlib.Core.Path.{◌≡◌, sym, ap, ◌∙◌}
use mathlib.Core.Bool.{Bool, true, false}
use mathlib.Core.List.{List, [], ◌∷◌}
use Prim.Native.Nat.{ℕ, zero, suc, ◌+◌, ◌*◌, ◌/◌, ◌%◌, ◌^◌, ◌<◌}
use native.Mathlib.Nat.{zero-div, pow-succ', div-div-eq-div-mul, lt_of_lt_of_le}
use native.Mathlib.Omega.{arith}
use borrow.Author.Tests.{eq-eqb, ne_eqb}
use lib.Dec.{eqb, lit<, lit≤}
use lib.ListN.{length, get_or}
use Rattle.input.specs.declared.Contacts.{Contacts}
use Rattle.input.specs.Brought.{bit_of, contacts_of}

abbrev digit_of : Bool → ℕ
digit_of true = 1
digit_of false = 0

-- the number that has these bits, from bit 0 on
unfoldable pub number_of : List Bool → ℕ
number_of [] = 0
number_of (b ∷ bs) = digit_of b + 2 * number_of bs

first_bit : (b : Bool) (m : ℕ) → bit_of (digit_of b + 2 * m) 0 ≡ b
first_bit true m = eq-eqb ((1 + 2 * m) / 2 ^ 0 % 2) 1 (omega arith)
first_bit false m = ne_eqb ((0 + 2 * m) / 2 ^ 0 % 2) 1 (λ e. omega arith)

half : (b : Bool) (m : ℕ) → (digit_of b + 2 * m) / 2 ≡ m
half true m = omega arith
half false m = omega arith

later_bit : (b : Bool) (m i : ℕ) → bit_of (digit_of b + 2 * m) (suc i) ≡ bit_of m i
later_bit b m i =
    ap (λ (n : ℕ). eqb (n % 2) 1)
    (ap (λ (p : ℕ). (digit_of b + 2 * m) / p) (pow-succ' 2 i) ∙ sym (div-div-eq-div-mul (digit_of b + 2 * m) 2 (2 ^ i)) ∙ ap (λ (n : ℕ). n / 2 ^ i) (half b m))

pub bit_at : (bs : List Bool) (i : ℕ) → bit_of (number_of bs) i ≡ get_or bs i false
unfolding number_of
bit_at [] i = ap (λ (n : ℕ). eqb (n % 2) 1) (zero-div (2 ^ i))
bit_at (b ∷ bs) zero = first_bit b (number_of bs)
bit_at (b ∷ bs) (suc i) = later_bit b (number_of bs) i ∙ bit_at bs i

pub number_fits : (bs : List Bool) → number_of bs < 2 ^ length bs
unfolding number_of
number_fits [] = lit< tt
number_fits (true ∷ bs) = omega (arith, number_fits bs, pow-succ' 2 (length bs))
number_fits (false ∷ bs) = omega (arith, number_fits bs, pow-succ' 2 (length bs))

-- "contacts, one 32-bit number, by bit", from bit 0 on
abbrev bits_of : Contacts → List Bool
bits_of c =
    c.breaker_closed ∷ c.switching ∷ c.supply_off ∷ c.oil_cold ∷ c.oil_low ∷ c.oil_high ∷ c.end_up ∷ c.end_down
    ∷ c.overcurrent ∷ c.external_block ∷ c.raise_block ∷ c.lower_block ∷ c.reset ∷ c.out ∷ c.automatic ∷ c.local_drive
    ∷ c.u_supp2 ∷ c.u_supp3 ∷ c.u_supp4 ∷ c.keys.panel.raise ∷ c.keys.panel.lower ∷ c.keys.remote
    ∷ c.keys.dispatcher.raise ∷ c.keys.dispatcher.lower ∷ []

abbrev pub contact_number : Contacts → ℕ
contact_number c = number_of (bits_of c)

module _ (c : Contacts) where
  bit : (i : ℕ) → bit_of (contact_number c) i ≡ get_or (bits_of c) i false
  bit i = bit_at (bits_of c) i

  pub brings_them : contacts_of (contact_number c) ≡ c
  brings_them =
      λ j. record {
        breaker_closed = bit 0 j;
        switching = bit 1 j;
        supply_off = bit 2 j;
        oil_cold = bit 3 j;
        oil_low = bit 4 j;
        oil_high = bit 5 j;
        end_up = bit 6 j;
        end_down = bit 7 j;
        overcurrent = bit 8 j;
        external_block = bit 9 j;
        raise_block = bit 10 j;
        lower_block = bit 11 j;
        reset = bit 12 j;
        out = bit 13 j;
        automatic = bit 14 j;
        local_drive = bit 15 j;
        u_supp2 = bit 16 j;
        u_supp3 = bit 17 j;
        u_supp4 = bit 18 j;
        keys =
            record {
              panel = record { raise = bit 19 j; lower = bit 20 j };
              dispatcher = record { raise = bit 22 j; lower = bit 23 j };
              remote = bit 21 j;
            };
      }

  pub of_32_bits : contact_number c < 2 ^ 32
  of_32_bits = lt_of_lt_of_le (number_fits (bits_of c)) (lit≤ tt)
