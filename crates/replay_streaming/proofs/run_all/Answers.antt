-- `replay_streaming::run_all` meets its contract.
-- Assumes nothing.
use Rattle.replay_streamed.proofs.Streams.{replayed}
use Rattle.replay_streaming.proofs.run_all.Goals as goal

pub returns : goal.returns
returns g c = replayed c.run_chunks.ensures
