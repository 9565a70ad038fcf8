use mathlib.Core.Path.{refl}
use Rattle.line.proofs.Parts.{magnitude_made}
use Rattle.line.proofs.magnitude.Goals as goal

pub returns : goal.returns
returns c = magnitude_made _ _ c.in_ok-v.v _ _ c.in_ok-v.was c.requires c.squares.ensures.0 c.squares.ensures.1 c.root.ensures.each refl
