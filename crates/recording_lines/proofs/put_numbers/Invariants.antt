use Rattle.recording_lines.proofs.Texts.{Going}
use Rattle.recording_lines.proofs.put_numbers.Given as goal

abbrev pub invariant-loop-i : goal.invariant-loop-i
invariant-loop-i l = Going l.numbers l.fn.out l.at l.out l.end l.i
