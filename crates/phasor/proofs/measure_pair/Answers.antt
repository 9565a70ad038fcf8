use Rattle.measure.specs.Readings.{limit_of}
use Rattle.phasor.proofs.Laws.{counting, counted}
use Rattle.phasor.specs.Pairs.{counted_of, vector_of}
use Rattle.phasor.proofs.measure_pair.Goals as goal

pub returns-in_err-n : goal.returns-in_err-n
returns-in_err-n c = let e = counted (limit_of c.args.c) c.args.p {v = c.from_residual.result} (search counting) in record { each = e.0; within = e.1 }

pub returns : goal.returns
unfolding vector_of counted_of
returns c = let e = counted (limit_of c.args.c) c.args.p {v = c.paired.result} (search counting) in record { each = e.0; within = e.1 }
