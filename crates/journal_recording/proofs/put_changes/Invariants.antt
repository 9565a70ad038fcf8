-- `journal_recording::put_changes` writes the changes of the fields before the ith.
-- Assumes nothing.
use Rattle.journal_changes.proofs.Recorded.{Adding}
use Rattle.journal_recording.proofs.put_changes.Given as goal

abbrev pub invariant-loop-i : goal.invariant-loop-i
invariant-loop-i l = Adding l.stamp l.before l.after l.initial.list l.list l.end l.i
