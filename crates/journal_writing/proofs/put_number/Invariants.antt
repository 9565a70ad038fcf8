-- `journal_writing::put_number` meets its contract.
-- Assumes nothing.
use Rattle.journal.proofs.Puts.{Going}
use Rattle.journal_writing.proofs.put_number.Given as goal

abbrev pub invariant-loop-rest : goal.invariant-loop-rest
invariant-loop-rest l = Going l.initial.buffer l.at l.n l.buffer l.rest l.end

abbrev pub decreases-loop-rest : goal.decreases-loop-rest
decreases-loop-rest l = l.rest
