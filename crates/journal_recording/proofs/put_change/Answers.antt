-- `journal_recording::put_change` meets its contract.
-- Assumes nothing.
use Rattle.std.proofs.Common.{rules, arith, ◌+◌, length-set, slice_set}
use Rattle.journal_changes.proofs.Recorded.{put_none, put_some, some_fits}
use Rattle.journal_recording.proofs.put_change.Goals as goal

pub returns-then-a-b : goal.returns-then-a-b
returns-then-a-b c = search (rules, put_none)

pub bounds-list-at : goal.bounds-list-at
bounds-list-at c = omega (arith, some_fits c.args.stamp c.args.field c.args.b c.args.a c.args.list.now c.args.at c.if-a-b.false c.requires)

pub bounds-list-at-2 : goal.bounds-list-at-2
bounds-list-at-2 c = omega (arith, length-set c.args.list.now c.args.at c.args.stamp, some_fits c.args.stamp c.args.field c.args.b c.args.a c.args.list.now c.args.at c.if-a-b.false c.requires)

pub bounds-list-at-3 : goal.bounds-list-at-3
bounds-list-at-3 c = omega (arith, length-set c.args.list.now c.args.at c.args.stamp, length-set (slice_set c.args.list.now c.args.at c.args.stamp) (c.args.at + 1) c.args.field, some_fits c.args.stamp c.args.field c.args.b c.args.a c.args.list.now c.args.at c.if-a-b.false c.requires)

pub returns : goal.returns
returns c = search (rules, put_some)
