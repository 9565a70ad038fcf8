use Rattle.measure.proofs.Laws.{taken}
use Rattle.measure_fraction.proofs.convert.Goals as goal

pub whole_thousandths-requires : goal.whole_thousandths-requires
whole_thousandths-requires c = search taken
