-- `record_limits::organ_delays` meets its contract: the slots, one by one. Assumes nothing.
use mathlib.Core.Path.{refl}
use Rattle.record_limits.specs.Limits.{delays_of}
use Rattle.record_limits.proofs.organ_delays.Goals as goal

pub returns : goal.returns
unfolding delays_of
returns c = refl
