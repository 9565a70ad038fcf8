-- `ahead_looking::look` meets its contract: before each tick, what is left of the look is a look over what is left of its ticks.
-- Assumes nothing.
use Rattle.ahead_looking.specs.Glances.{outlook_by}
use Rattle.ahead_looking.proofs.Looks.{Going}
use Rattle.ahead_looking.proofs.look.Given as goal

abbrev pub invariant-loop-tick : goal.invariant-loop-tick
invariant-loop-tick g l =
    let tick = g.T.Repeated.tick l.repeated in
    Going tick (outlook_by tick l.fn.at_rest l.fn.first l.horizon) l.horizon l.next l.rest l.outputs l.tick
