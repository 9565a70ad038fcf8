-- What 02, ticket 6, says of a remembered press, sentence by sentence, of every decision; `command_manual` has what a tick leaves remembered.
-- Assumes nothing.
use mathlib.Core.Path.{◌≡◌, refl, ap, sym, ◌∙◌}
use mathlib.Core.Bool.{true, false}
use mathlib.Core.List.{List}
use mathlib.Core.Logic.{⊎_elim}
use Prim.Native.Nat.{ℕ}
use Rattle.common.specs.Choice.{choose}
use Rattle.common.proofs.Cases.{either}
use Rattle.common.proofs.Joined.{split}
use Rattle.ways.specs.declared.Direction.{Direction}
use Rattle.ways.specs.declared.Direction.TheVariants.{Raise, Lower}
use Rattle.std.specs.Prelude.{Option, None, Some}
use Rattle.ways.specs.Ways.{raises, lowers, newer_of}
use Rattle.keys.specs.declared.Buttons.{Buttons}
use Rattle.command.specs.declared.Decided.{Decided}
use Rattle.command.specs.declared.Situation.{Situation}
use Rattle.command.specs.Idling.{idle_of}
use Rattle.command_automatic.specs.Automatic.{toward_of, sided_of, automatic_of}
use Rattle.command_deciding.specs.Deciding.{decided_of}
use Rattle.command_manual.specs.Manual.{pressed_of, press_of, sought_of, granted_of, manual_of}

-- one button, or none
abbrev button_of : Option Direction → Buttons
button_of w = record { raise = raises w; lower = lowers w }

-- the situation with these buttons on this tick and the one before, and this press remembered
abbrev pub with_presses : Situation → Buttons → Buttons → Option Direction → Situation
with_presses x now before press =
    record {
      resting = x.resting;
      automatic = x.automatic;
      side = x.side;
      far = x.far;
      blocks = x.blocks;
      wait = x.wait;
      repeat = x.repeat;
      heard = record { buttons = now; before = before; remembered = press };
    }

-- pressed alone: this button and not the other, neither on the previous tick, nothing remembered
abbrev pub alone_of : Situation → Direction → Situation
alone_of x d = with_presses x (button_of (Some d)) (button_of None) None

-- nothing remembered
abbrev pub forgotten : Situation → Situation
forgotten x = with_presses x x.heard.buttons x.heard.before None

sought_alone : (x : Situation) (d : Direction) → sought_of (alone_of x d) ≡ Some d
unfolding sought_of pressed_of newer_of choose
sought_alone x Raise = refl
sought_alone x Lower = refl

module _ (s : List ℕ) (x : Situation) where
  in_manual : x.automatic ≡ false → decided_of s x ≡ choose x.resting (manual_of x) idle_of
  unfolding decided_of choose
  in_manual a = rw a refl

  in_automatic : x.automatic ≡ true → decided_of s x ≡ choose x.resting (automatic_of s x) idle_of
  unfolding decided_of choose
  in_automatic a = rw a refl

module _ (s : List ℕ) (x : Situation) (now before : Buttons) (press : Option Direction) where
  abbrev changed : Situation
  changed = with_presses x now before press

  -- the same press sought, the same decision in manual mode
  same_manual : x.automatic ≡ false → sought_of x ≡ sought_of changed → decided_of s x ≡ decided_of s changed
  unfolding manual_of
  same_manual a e =
      in_manual s x a ∙ (ap (λ (w : Option Direction). choose x.resting (granted_of x.blocks w) idle_of) e ∙ sym (in_manual s changed a))

  same_side : (w : Option Direction) → sided_of s x w ≡ sided_of s changed w
  unfolding sided_of toward_of
  same_side None = refl
  same_side (Some d) = refl

  -- a command that a press begins, a remembered one or not, is manual: in automatic mode nothing goes by presses
  pub automatic_alone : x.automatic ≡ true → decided_of s x ≡ decided_of s changed
  automatic_alone a =
      in_automatic s x a ∙ (ap (λ (o : Decided). choose x.resting o idle_of) (same_side x.side) ∙ sym (in_automatic s changed a))

module _ (s : List ℕ) (x : Situation) (d : Direction) where
  sought_remembered : x.heard.remembered ≡ Some d → press_of x ≡ None → sought_of x ≡ Some d
  unfolding sought_of newer_of
  sought_remembered e n = rw (n, e) refl

  -- "it is carried out as if pressed alone then", whatever is held
  pub as_if_pressed_alone : x.automatic ≡ false → x.heard.remembered ≡ Some d → press_of x ≡ None → decided_of s x ≡ decided_of s (alone_of x d)
  as_if_pressed_alone a e n = same_manual s x _ _ _ a (sought_remembered e n ∙ sym (sought_alone x d))

  sought_real : press_of x ≡ Some d → sought_of x ≡ sought_of (forgotten x)
  unfolding sought_of newer_of
  sought_real e = rw e refl

  -- "a real press on that tick wins"
  pub real_press_wins : press_of x ≡ Some d → decided_of s x ≡ decided_of s (forgotten x)
  real_press_wins e = ⊎_elim (λ a. automatic_alone s x _ _ _ a) (λ a. same_manual s x _ _ _ a (sought_real e)) (split x.automatic)

-- neither a press nor a remembered one: nothing begins
pub none_begins : (s : List ℕ) (x : Situation) → x.automatic ≡ false → press_of x ≡ None → x.heard.remembered ≡ None → decided_of s x ≡ idle_of
unfolding manual_of sought_of newer_of granted_of choose
none_begins s x a n e = in_manual s x a ∙ rw (n, e) (sym (either _ _ _ x.resting refl refl))
