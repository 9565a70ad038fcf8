-- `journal_writing::put_list` meets its contract.
-- Assumes nothing.
use Rattle.journal.proofs.Puts.{Listing}
use Rattle.journal_writing.proofs.put_list.Given as goal

abbrev pub invariant-loop-number : goal.invariant-loop-number
invariant-loop-number l = Listing l.list l.initial.buffer l.buffer l.end l.number-index
