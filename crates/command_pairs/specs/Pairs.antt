-- Panel and dispatcher (02, ticket 7). Definitions only.
use Rattle.std.specs.Prelude.{Bool, not, ◌&&◌, ◌||◌, Option, None}
use Rattle.common.specs.Choice.{choose}
use Rattle.ways.specs.declared.Direction.{Direction}
use Rattle.keys.specs.declared.Buttons.{Buttons}
use Rattle.keys.specs.declared.Keys.{Keys}
use Rattle.command.specs.declared.Heard.{Heard}

-- the pair of a mode: "bit 21 chooses remote mode, bits 22 and 23 are the dispatcher's raise and lower. Bits 19 and 20 act only in local
-- mode"
unfoldable pub pair_of : Bool → Keys → Buttons
pair_of remote k = choose remote k.dispatcher k.panel

-- a change of mode, from the previous tick to this one
abbrev pub changed_of : Keys → Keys → Bool
changed_of now before = now.remote && not before.remote || before.remote && not now.remote

-- "all that used the one pair uses the pair of its mode": that of this tick's mode. "Each pair remembers its own previous tick in both
-- modes", so its buttons before are its own, whatever the mode was then. "A change of mode drops a remembered press": one that was
-- remembered before this tick. A press on this very tick is made in its mode.
unfoldable pub heard_of : Keys → Keys → Option Direction → Heard
heard_of now before press =
    record {
      buttons = pair_of now.remote now;
      before = pair_of now.remote before;
      remembered = choose (changed_of now before) None press;
    }
