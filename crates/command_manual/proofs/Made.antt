-- The parts of a decision make it: each law is over plain values, as a function's branches have them, and `search` finds it.
-- Assumes nothing.
use mathlib.Core.Path.{◌≡◌, refl}
use mathlib.Core.Bool.{Bool, true, false, not, ◌&&◌, ◌||◌}
use Rattle.common.specs.Choice.{choose}
use Rattle.common.proofs.Cases.{yes, no, cases}
use Rattle.std.specs.Prelude.{Option, None, Some}
use Rattle.ways.specs.declared.Direction.{Direction}
use Rattle.ways.specs.declared.Direction.TheVariants.{Raise, Lower}
use Rattle.blocks.specs.declared.Blocks.{Blocks}
use Rattle.blocks.specs.Blocked.{opposed_of}
use Rattle.ways.specs.Ways.{raises, lowers, newer_of}
use Rattle.command.specs.declared.Heard.{Heard}
use Rattle.command.specs.declared.Situation.{Situation}
use Rattle.command.specs.declared.Decided.{Decided}
use Rattle.command.specs.Idling.{idle_of}
use Rattle.command_manual.specs.Manual.{pressed_of, press_of, sought_of, granted_of, manual_of, remembered_of}

-- a press
pub sought_made : (x : Situation) {press r : Option Direction} → press ≡ press_of x → r ≡ newer_of press x.heard.remembered → r ≡ sought_of x
unfolding sought_of
sought_made x p q = rw (← p) q

module _ (x : Situation) (r : Decided) {press : Option Direction} {up down : Bool} (p : press ≡ sought_of x) (u : up ≡ raises press) (w : down ≡ lowers press) where
  pub manual_pressed : (up && not x.blocks.manual && not x.blocks.raise || down && not x.blocks.manual && not x.blocks.lower) ≡ true
      → r ≡ record { command = press; wait = None } → r ≡ manual_of x
  unfolding manual_of granted_of
  manual_pressed t q = rw (← p, ← u, ← w) (yes _ _ _ _ t q)

  pub manual_idle : (up && not x.blocks.manual && not x.blocks.raise || down && not x.blocks.manual && not x.blocks.lower) ≡ false
      → r ≡ idle_of → r ≡ manual_of x
  unfolding manual_of granted_of
  manual_idle t q = rw (← p, ← u, ← w) (no _ _ _ _ t q)

-- the same test by the direction's own block
raise_free : (m o : Bool) (x y : Decided) → choose (not m && not o || false) x y ≡ choose (m || o) y x
unfolding choose
raise_free true o x y = refl
raise_free false true x y = refl
raise_free false false x y = refl

lower_free : (m o : Bool) (x y : Decided) → choose (not m && not o) x y ≡ choose (m || o) y x
unfolding choose
lower_free true o x y = refl
lower_free false true x y = refl
lower_free false false x y = refl

granted_to : (b : Blocks) (d : Direction) → granted_of b (Some d) ≡ choose (b.manual || opposed_of b d) idle_of (record { command = Some d; wait = None })
unfolding granted_of
granted_to b Raise = raise_free b.manual b.raise _ _
granted_to b Lower = lower_free b.manual b.lower _ _

module _ (x : Situation) (r : Decided) {press : Option Direction} (p : press ≡ sought_of x) where
  pub manual_none : press ≡ None → r ≡ idle_of → r ≡ manual_of x
  unfolding manual_of granted_of choose
  manual_none e q = rw (← p, e) q

  pub manual_opposed : (d : Direction) {o : Bool} → press ≡ Some d → o ≡ opposed_of x.blocks d → (x.blocks.manual || o) ≡ true → r ≡ idle_of → r ≡ manual_of x
  unfolding manual_of
  manual_opposed d e u t q = rw (← p, e, granted_to x.blocks d, ← u) (yes _ _ _ _ t q)

  pub manual_free : (d : Direction) {o : Bool} → press ≡ Some d → o ≡ opposed_of x.blocks d → (x.blocks.manual || o) ≡ false
      → r ≡ record { command = Some d; wait = None } → r ≡ manual_of x
  unfolding manual_of
  manual_free d e u t q = rw (← p, e, granted_to x.blocks d, ← u) (no _ _ _ _ t q)

-- the press that is remembered
module _ (rested dropped : Bool) (h : Heard) (r : Option Direction) where
  pub remembered_none : (rested || dropped) ≡ true → r ≡ None → r ≡ remembered_of rested dropped h
  unfolding remembered_of
  remembered_none t q = yes _ _ _ _ t q

  pub remembered_newer : {latest : Option Direction} → latest ≡ pressed_of h.buttons h.before → (rested || dropped) ≡ false → r ≡ newer_of latest h.remembered
      → r ≡ remembered_of rested dropped h
  unfolding remembered_of
  remembered_newer p t q = rw (← p) (no _ _ _ _ t q)

pub ruleset made = (sought_made, manual_pressed, manual_idle, manual_none, manual_opposed, manual_free, remembered_none, remembered_newer, cases)
