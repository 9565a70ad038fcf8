use Rattle.rules.specs.Ticks.{refused_of}
use Rattle.regulator.proofs.refused.Goals as goal

pub returns : goal.returns
unfolding refused_of
returns c = cc
