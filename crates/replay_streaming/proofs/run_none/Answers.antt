-- `replay_streaming::run_none` meets its contract.
-- Assumes nothing.
use Rattle.std.proofs.Common.{rules}
use Rattle.replay_streamed.proofs.Streams.{replayed_none}
use Rattle.replay_streaming.proofs.run_none.Goals as goal

pub returns : goal.returns
returns c = search (rules, replayed_none)
