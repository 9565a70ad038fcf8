-- `journal_recording::numbers_added` counts the changes of the fields before the ith.
-- Assumes nothing.
use Rattle.journal_changes.proofs.Recorded.{Counting}
use Rattle.journal_recording.proofs.numbers_added.Given as goal

abbrev pub invariant-loop-i : goal.invariant-loop-i
invariant-loop-i l = Counting l.before l.after l.count l.i
