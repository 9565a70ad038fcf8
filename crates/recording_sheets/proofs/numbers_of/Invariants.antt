-- `recording_sheets::numbers_of` meets its contract: the numbers read so far are the file's.
-- Assumes nothing.
use Rattle.recording_sheets.proofs.Starts.{Upto}
use Rattle.recording_sheets.proofs.numbers_of.Given as goal

abbrev pub invariant-loop-i : goal.invariant-loop-i
invariant-loop-i l = Upto l.bytes l.i l.list
