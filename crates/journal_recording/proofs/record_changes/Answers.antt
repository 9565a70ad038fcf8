-- `journal_recording::record_changes` meets its contract.
-- Assumes nothing.
use Rattle.journal_changes.proofs.Recorded.{full, changes_fit, added}
use Rattle.journal_recording.proofs.record_changes.Goals as goal

pub returns-then-list-count : goal.returns-then-list-count
returns-then-list-count c =
    let p = full c.args.stamp c.args.before c.args.after c.args.list.now c.numbers_added-count.ensures c.if-list-count.true in
    record { answer = p.0; numbers = p.1 }

pub put_changes-requires : goal.put_changes-requires
put_changes-requires c = changes_fit c.args.stamp c.args.before c.args.after c.args.list.now c.numbers_added-count.ensures c.if-list-count.false

pub returns : goal.returns
returns c =
    let p = added c.args.stamp c.args.before c.args.after c.args.list.now c.numbers_added-count.ensures c.if-list-count.false c.put_changes.ensures c.stamp_after.ensures in
    record { answer = p.0; numbers = p.1 }
