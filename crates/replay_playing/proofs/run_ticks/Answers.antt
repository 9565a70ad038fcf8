-- `replay_playing::run_ticks` meets its contract.
-- Assumes nothing.
use Rattle.std.proofs.Common.{rules}
use Rattle.replay_playing.proofs.Runs.{going_start, going_on, going_stop, going_end}
use Rattle.replay_playing.proofs.run_ticks.Goals as goal

pub loop-done-init : goal.loop-done-init
loop-done-init c = going_start _ _ _

pub loop-done-preserved : goal.loop-done-preserved
loop-done-preserved c =
    going_on c.loop-done.invariant (search rules) (search rules) c.in-Some.ensures.step c.in-Some.ensures.text

pub returns-after-loop-done-clause-played : goal.returns-after-loop-done-clause-played
returns-after-loop-done-clause-played c = going_end c.loop-done.invariant (search rules)

pub returns-in-None-clause-played : goal.returns-in-None-clause-played
returns-in-None-clause-played c = going_stop c.loop-done.invariant c.in-None.ensures.step c.in-None.ensures.text
