-- `replay_streaming::run_chunks` meets its contract.
-- Assumes nothing.
use Rattle.std.proofs.Common.{rules}
use Rattle.replay_streamed.proofs.Streams.{behind_start, behind_on, behind_end}
use Rattle.replay_streaming.proofs.run_chunks.Goals as goal

pub loop-turn-init : goal.loop-turn-init
loop-turn-init g c = search (rules, behind_start)

pub returns-then-advanced : goal.returns-then-advanced
returns-then-advanced g c = behind_end c.loop-turn.invariant.3 c.run_some-advanced.ensures c.if-advanced.true

pub loop-turn-preserved : goal.loop-turn-preserved
loop-turn-preserved g c = (
  search rules,
  search rules,
  search rules,
  behind_on c.loop-turn.invariant.3 c.run_some-advanced.ensures (search rules) c.if-advanced.false,
)
