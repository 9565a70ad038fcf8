use mathlib.Core.Path.{refl}
use Rattle.line.proofs.Parts.{remains_made}
use Rattle.line.proofs.remains.Goals as goal

pub returns : goal.returns
returns c =
    let re = c.line_drop-drop.ensures.re in
    let im = c.line_drop-drop.ensures.im in
    remains_made _ _ _ _ _ c.in_ok-u.u c.in_ok-i.i _ _ c.in_ok-u.was c.in_ok-i.was c.requires.0 c.requires.1 re.0 re.1 im.0 im.1 refl
