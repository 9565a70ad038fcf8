-- What 02, ticket 6, says of a press: which buttons are one, and what a tick leaves remembered.
-- Assumes nothing.
use mathlib.Core.Path.{◌≡◌, refl}
use mathlib.Core.Bool.{Bool, true, false}
use Rattle.common.specs.Choice.{choose}
use Rattle.ways.specs.declared.Direction.{Direction}
use Rattle.std.specs.Prelude.{Option, None, Some}
use Rattle.ways.specs.Ways.{newer_of}
use Rattle.keys.specs.declared.Buttons.{Buttons}
use Rattle.command_manual.specs.Manual.{pressed_of, remembered_of}

-- buttons that are all held over from the previous tick are no press
pub none_new : (r l r' l' : Bool) → (r ≡ true → r' ≡ true) → (l ≡ true → l' ≡ true)
    → pressed_of (record { raise = r; lower = l }) (record { raise = r'; lower = l' }) ≡ None
unfolding pressed_of choose
none_new false false r' l' p q = refl
none_new true true r' l' p q = refl
none_new true false r' l' p q = rw (p refl) refl
none_new false true r' l' p q = rw (q refl) refl

-- ---- what a tick that starts with a command or move unfinished leaves remembered, where nothing drops it

module _ (now before : Buttons) (earlier : Option Direction) where
  abbrev after : Option Direction
  after = remembered_of false false (record { buttons = now; before = before; remembered = earlier })

  -- "the latest replacing the earlier one"
  pub latest_replaces : (d : Direction) → pressed_of now before ≡ Some d → after ≡ Some d
  unfolding remembered_of newer_of choose
  latest_replaces d e = rw e refl

  no_press : pressed_of now before ≡ None → after ≡ earlier
  unfolding remembered_of newer_of choose
  no_press e = rw e refl

  -- "two buttons newly pressed together change nothing"
  pub two_change_nothing : now.raise ≡ true → now.lower ≡ true → after ≡ earlier
  unfolding pressed_of choose
  two_change_nothing r l = no_press (rw (r, l) refl)

  -- nor does a button that is held
  pub held_changes_nothing : (now.raise ≡ true → before.raise ≡ true) → (now.lower ≡ true → before.lower ≡ true) → after ≡ earlier
  held_changes_nothing r l = no_press (none_new now.raise now.lower before.raise before.lower r l)
