-- `replay_streaming::run_chunks`: the offset is that of the chunks before this one.
use Rattle.std.proofs.Common.{◌≡◌, ◌*◌, length}
use Rattle.replay_streamed.specs.Streamed.{chunk_bytes}
use Rattle.replay_streamed.proofs.Streams.{Behind}
use Rattle.replay_streaming.proofs.run_chunks.Given as goal

abbrev pub invariant-loop-turn : goal.invariant-loop-turn
invariant-loop-turn g l =
    (length l.space ≡ length l.initial.space)
    × (length l.lines ≡ length l.initial.lines)
    × (l.offset ≡ chunk_bytes * l.turn)
    × Behind l.initial.next l.next l.offset
