-- `journal_recording::put_changes` meets its contract.
-- Assumes nothing.
use Rattle.std.proofs.Common.{rules}
use Rattle.journal_changes.proofs.Recorded.{adding_start, change_fits, adding_on, adding_end}
use Rattle.journal_recording.proofs.put_changes.Goals as goal

pub loop-i-init : goal.loop-i-init
loop-i-init c = search (rules, adding_start)

pub put_change-end-requires : goal.put_change-end-requires
put_change-end-requires c = search (rules, change_fits)

pub loop-i-preserved : goal.loop-i-preserved
loop-i-preserved c = search (rules, adding_on)

pub returns : goal.returns
returns c = search (rules, adding_end)
