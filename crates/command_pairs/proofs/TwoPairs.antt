-- What 02, ticket 7, says of the two pairs of buttons, of what manual mode goes by.
-- Assumes nothing.
use mathlib.Core.Path.{◌≡◌, refl}
use mathlib.Core.Bool.{Bool, true, false}
use Rattle.common.specs.Choice.{choose}
use Rattle.std.specs.Prelude.{Option, None}
use Rattle.ways.specs.declared.Direction.{Direction}
use Rattle.keys.specs.declared.Buttons.{Buttons}
use Rattle.keys.specs.declared.Keys.{Keys}
use Rattle.command_manual.specs.Manual.{pressed_of}
use Rattle.command_pairs.specs.Pairs.{pair_of, changed_of, heard_of}
use Rattle.command_manual.proofs.Presses.{none_new}

-- the keys with these buttons of the pair that the mode does not choose
abbrev pub with_other : Bool → Buttons → Keys → Keys
with_other remote b k =
    record { panel = choose remote b k.panel; dispatcher = choose remote k.dispatcher b; remote = k.remote }

pair_same : (remote : Bool) (b : Buttons) (k : Keys) → pair_of remote (with_other remote b k) ≡ pair_of remote k
unfolding pair_of choose
pair_same true b k = refl
pair_same false b k = refl

module _ (now before : Keys) (press : Option Direction) where
  -- "bits 19 and 20 act only in local mode", and the dispatcher's only in remote mode: the other pair is not heard, whatever is pressed
  -- of it on this tick, or was on the previous one
  pub other_unheard : (b b' : Buttons) → heard_of (with_other now.remote b now) (with_other now.remote b' before) press ≡ heard_of now before press
  unfolding heard_of
  other_unheard b b' = rw (pair_same now.remote b now, pair_same now.remote b' before) refl

  -- "a change of mode drops a remembered press": none is heard, and all is as if none had been remembered
  pub change_drops : changed_of now before ≡ true → (heard_of now before press).remembered ≡ None
  unfolding heard_of choose
  change_drops e = rw e refl

  pub change_forgets : changed_of now before ≡ true → heard_of now before press ≡ heard_of now before None
  unfolding heard_of choose
  change_forgets e = rw e refl

  -- in the same mode it stands
  pub same_keeps : changed_of now before ≡ false → (heard_of now before press).remembered ≡ press
  unfolding heard_of choose
  same_keeps e = rw e refl

  -- "each pair remembers its own previous tick in both modes": a button that was held through a change of mode is no press
  pub held_through : ((pair_of now.remote now).raise ≡ true → (pair_of now.remote before).raise ≡ true)
      → ((pair_of now.remote now).lower ≡ true → (pair_of now.remote before).lower ≡ true)
      → pressed_of (heard_of now before press).buttons (heard_of now before press).before ≡ None
  unfolding heard_of
  held_through p q = none_new _ _ _ _ p q
