use Rattle.showing.specs.Showing.{outputs_of}
use Rattle.showing.proofs.show.Goals as goal

pub returns : goal.returns
unfolding outputs_of
returns c = cc
