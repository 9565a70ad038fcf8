-- `sensing_observing::observe` meets its contract, by what each call ensures. Assumes nothing.
use Rattle.sensing_observing.specs.Observing.{observed_of}
use Rattle.sensing_observing.proofs.observe.Goals as goal

pub returns : goal.returns
unfolding observed_of
returns c = cc
