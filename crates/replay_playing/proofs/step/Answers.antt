-- `replay_playing::step` meets its contract where a tick was decoded.
-- Assumes nothing.
use Rattle.std.proofs.Common.{rules}
use Rattle.replay_playing.proofs.Runs.{step_tick}
use Rattle.replay_playing.proofs.step.Goals as goal

pub returns-in-Ok-clause-step : goal.returns-in-Ok-clause-step
returns-in-Ok-clause-step c =
    (step_tick _ _ _ _ _ c.decode_tick.ensures (search rules) (search rules) c.tick-ticked.ensures.each c.outputs_in-outputs.ensures c.write_line-end.ensures.text c.write_line-end.ensures.end).0

pub returns-in-Ok-clause-text : goal.returns-in-Ok-clause-text
returns-in-Ok-clause-text c =
    (step_tick _ _ _ _ _ c.decode_tick.ensures (search rules) (search rules) c.tick-ticked.ensures.each c.outputs_in-outputs.ensures c.write_line-end.ensures.text c.write_line-end.ensures.end).1
