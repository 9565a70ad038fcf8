use Rattle.measure.specs.Readings.{limit_of}
use Rattle.measure_reading.proofs.Qualities.{readings, within}
use Rattle.measure_reading.proofs.measure.Goals as goal

pub returns-in-None-clause-within : goal.returns-in-None-clause-within
returns-in-None-clause-within c = within (limit_of c.args.c) c.args.r _ (search readings)

pub returns-in-Some-clause-each : goal.returns-in-Some-clause-each
returns-in-Some-clause-each c = search readings

pub returns-in-Some-clause-within : goal.returns-in-Some-clause-within
returns-in-Some-clause-within c = within (limit_of c.args.c) c.args.r c.counted.result (search readings)
