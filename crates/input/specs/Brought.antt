-- What a tick brings (01, 'What a tick brings'; 02, ticket 7). Definitions only.
use Rattle.std.specs.Prelude.{ℕ, ◌/◌, ◌%◌, ◌^◌, Bool, true, false, eqb}
use Rattle.measure.specs.declared.Channel.{Channel}
use Rattle.measure.specs.declared.Channel.TheVariants.{Voltage, Current1A, Current5A}
use Rattle.measure.specs.Readings.{limit_of, measured_of}
use Rattle.input.specs.declared.Input.{Input}
use Rattle.input.specs.declared.Contacts.{Contacts}
use Rattle.input.specs.declared.Readings.{Readings}

-- bit i of a number
abbrev pub bit_of : ℕ → ℕ → Bool
bit_of n i = eqb (n / 2 ^ i % 2) 1

-- "contacts, one 32-bit number, by bit"; 02, ticket 7: "bit 21 chooses remote mode, bits 22 and 23 are the dispatcher's raise and lower"
abbrev pub contacts_of : ℕ → Contacts
contacts_of n =
    record {
      breaker_closed = bit_of n 0;
      switching = bit_of n 1;
      supply_off = bit_of n 2;
      oil_cold = bit_of n 3;
      oil_low = bit_of n 4;
      oil_high = bit_of n 5;
      end_up = bit_of n 6;
      end_down = bit_of n 7;
      overcurrent = bit_of n 8;
      external_block = bit_of n 9;
      raise_block = bit_of n 10;
      lower_block = bit_of n 11;
      reset = bit_of n 12;
      out = bit_of n 13;
      automatic = bit_of n 14;
      local_drive = bit_of n 15;
      u_supp2 = bit_of n 16;
      u_supp3 = bit_of n 17;
      u_supp4 = bit_of n 18;
      keys =
          record {
            panel = record { raise = bit_of n 19; lower = bit_of n 20 };
            dispatcher = record { raise = bit_of n 22; lower = bit_of n 23 };
            remote = bit_of n 21;
          };
    }

-- "40 × k A": a 5 A module has five times the range of a 1 A one
abbrev pub current_of : Bool → Channel
current_of true = Current5A
current_of false = Current1A

-- "six readings, U_AB, 3U0, U2, I_high, I_bus, I_coupler"
unfoldable pub readings_of : Input → Bool → Readings
readings_of i five =
    record {
      u_ab = measured_of (limit_of Voltage) i.u_ab;
      u0 = measured_of (limit_of Voltage) i.u0;
      u2 = measured_of (limit_of Voltage) i.u2;
      i_high = measured_of (limit_of (current_of five)) i.i_high;
      i_bus = measured_of (limit_of (current_of five)) i.i_bus;
      i_coupler = measured_of (limit_of (current_of five)) i.i_coupler;
    }
