-- The parts of a decision make it: each law is over plain values, as a function's branches have them, and `search` finds it.
-- Assumes nothing.
use mathlib.Core.Path.{◌≡◌}
use mathlib.Core.Bool.{Bool}
use Rattle.common.specs.Choice.{choose}
use Rattle.common.proofs.Cases.{cases}
use Rattle.std.specs.Prelude.{Option, None}
use Rattle.ways.specs.declared.Direction.{Direction}
use Rattle.keys.specs.declared.Buttons.{Buttons}
use Rattle.keys.specs.declared.Keys.{Keys}
use Rattle.command.specs.declared.Heard.{Heard}
use Rattle.command_pairs.specs.Pairs.{pair_of, changed_of, heard_of}

-- the mode's pair of buttons
pub heard_made : (now before : Keys) (press : Option Direction) {buttons held : Buttons} {changed : Bool} {still : Option Direction} → buttons ≡ pair_of now.remote now
    → held ≡ pair_of now.remote before
    → changed ≡ changed_of now before
    → still ≡ choose changed None press
    → ◌≡◌ {A = Heard} (record { buttons = buttons; before = held; remembered = still }) (heard_of now before press)
unfolding heard_of
heard_made now before press p q r s = rw (p, q, s, r)

pub ruleset made = (heard_made, cases)
