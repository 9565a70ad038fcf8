-- `journal_writing::fits` meets its contract.
-- Assumes nothing.
use Rattle.journal.proofs.Puts.{Left}
use Rattle.journal_writing.proofs.fits.Given as goal

abbrev pub invariant-loop-number : goal.invariant-loop-number
invariant-loop-number l = Left l.list l.room l.left l.number-index
