-- The definitions that go by a case, as `search` follows them: `search parts`.
-- Assumes nothing.
use mathlib.Core.Path.{◌≡◌}
use mathlib.Core.Bool.{Bool}
use Rattle.common.proofs.Cases.{cases}
use Rattle.ways.specs.declared.Direction.{Direction}
use Rattle.drive.specs.declared.Drive.{Drive}
use Rattle.drive.specs.declared.Drive.TheVariants.{Asked}
use Rattle.std.specs.Prelude.{Option, None, Some}
use Rattle.acting_commanding.specs.Commanding.{ask_of}

module _ (r d : Drive) (b : Bool) (w : Option Direction) where
  pub ask_neither : w ≡ None → r ≡ d → r ≡ ask_of d b w
  unfolding ask_of
  ask_neither p q = rw p q

  pub ask_to : (e : Direction) → w ≡ Some e → r ≡ Asked e 0 b → r ≡ ask_of d b w
  unfolding ask_of
  ask_to e p q = rw p q

pub ruleset parts = (ask_neither, ask_to, cases)
