use Rattle.rules.specs.Ticks.{out_of}
use Rattle.record_starting.specs.Starting.{fresh_of}
use Rattle.regulator.proofs.out_of_service.Goals as goal

pub returns : goal.returns
unfolding out_of fresh_of
returns c = cc
