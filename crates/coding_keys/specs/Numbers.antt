-- The keys of the previous tick in numbers: the number of each case, and the case of each number. Definitions only.
use Rattle.std.specs.Prelude.{Bool, ◌&&◌, eqb}
use Rattle.keys.specs.declared.Keys.{Keys}
use Rattle.coding_keys.specs.declared.KeyImage.{KeyImage}
use Rattle.coding_flag.specs.Numbers.{bit_of, is_bit}

unfoldable pub key_image : Keys → KeyImage
key_image k =
    record {
      raise_button = bit_of k.panel.raise;
      lower_button = bit_of k.panel.lower;
      remote_raise = bit_of k.dispatcher.raise;
      remote_lower = bit_of k.dispatcher.lower;
      remote = bit_of k.remote;
    }

unfoldable pub keys_of : KeyImage → Keys
keys_of m =
    record {
      panel = record { raise = eqb m.raise_button 1; lower = eqb m.lower_button 1 };
      dispatcher = record { raise = eqb m.remote_raise 1; lower = eqb m.remote_lower 1 };
      remote = eqb m.remote 1;
    }

-- the numbers are some keys'
abbrev pub are_keys : KeyImage → Bool
are_keys m =
    is_bit m.raise_button && is_bit m.lower_button
    && (is_bit m.remote_raise && is_bit m.remote_lower)
    && is_bit m.remote
