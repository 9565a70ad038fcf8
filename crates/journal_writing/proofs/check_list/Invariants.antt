-- `journal_writing::check_list` meets its contract.
-- Assumes nothing.
use Rattle.journal.proofs.Checks.{Checking}
use Rattle.journal_writing.proofs.check_list.Given as goal

abbrev pub invariant-loop-i : goal.invariant-loop-i
invariant-loop-i l = Checking l.list l.state l.i
