-- The root lies between r and r + 2 ^ i.
use Rattle.std.proofs.Common.{◌^◌}
use Rattle.root.proofs.Laws.{Between}
use Rattle.root.proofs.root.Given as goal

abbrev pub invariant-loop-i : goal.invariant-loop-i
invariant-loop-i l = Between l.n l.r (2 ^ l.i)
