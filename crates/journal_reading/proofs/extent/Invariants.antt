-- `journal_reading::extent` meets its contract.
-- Assumes nothing.
use lib.ListN.{length}
use Rattle.journal.proofs.Scans.{Scanning}
use Rattle.journal_reading.proofs.extent.Given as goal

abbrev pub invariant-loop-rest : goal.invariant-loop-rest
invariant-loop-rest l = Scanning l.text l.state l.rest l.count

abbrev pub decreases-loop-rest : goal.decreases-loop-rest
decreases-loop-rest l = length l.rest
