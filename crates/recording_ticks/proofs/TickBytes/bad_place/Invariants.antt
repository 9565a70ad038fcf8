use Rattle.recording_ticks.proofs.Bad.{From}
use Rattle.recording_ticks.proofs.TickBytes.bad_place.Given as goal

abbrev pub invariant-loop-i : goal.invariant-loop-i
invariant-loop-i l = From l.self.bytes.now l.self.at l.i
