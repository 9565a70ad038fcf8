-- `journal_reading::fill_list` meets its contract.
-- Assumes nothing.
use lib.ListN.{length}
use Rattle.journal.proofs.Scans.{Filling}
use Rattle.journal_reading.proofs.fill_list.Given as goal

abbrev pub invariant-loop-n : goal.invariant-loop-n
invariant-loop-n l = Filling l.text l.initial.list l.list l.rest l.i

abbrev pub decreases-loop-n : goal.decreases-loop-n
decreases-loop-n l = length l.rest
