-- `replay_playing::run_ticks`: what is left to play gives the whole. The measure is what is left of the bytes.
use Rattle.std.proofs.Common.{length, ◌-◌}
use Rattle.replay_playing.specs.Played.{played_of}
use Rattle.replay_playing.proofs.Runs.{Going}
use Rattle.replay_playing.proofs.run_ticks.Given as goal

abbrev pub invariant-loop-done : goal.invariant-loop-done
invariant-loop-done l = Going l.bytes (played_of l.initial.next l.bytes) (length l.initial.lines) l.next l.done l.end l.lines

abbrev pub decreases-loop-done : goal.decreases-loop-done
decreases-loop-done l = length l.bytes - l.done
