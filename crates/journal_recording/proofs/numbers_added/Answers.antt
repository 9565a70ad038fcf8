-- `journal_recording::numbers_added` meets its contract.
-- Assumes nothing.
use Rattle.std.proofs.Common.{rules, arith, get_or}
use Rattle.journal_changes.proofs.Fields.{one_most}
use Rattle.journal_changes.proofs.Recorded.{counting_start, counting_on, counting_end}
use Rattle.journal_recording.proofs.numbers_added.Goals as goal

pub loop-i-init : goal.loop-i-init
loop-i-init c = search (rules, counting_start)

pub overflow_add-count : goal.overflow_add-count
overflow_add-count c = omega (arith, c.loop-i.invariant.few, c.size-count.ensures, one_most 0 0 (get_or c.args.before c.loop-i.i 0) (get_or c.args.after c.loop-i.i 0))

pub loop-i-preserved : goal.loop-i-preserved
loop-i-preserved c = search (rules, counting_on)

pub returns : goal.returns
returns c = search (rules, counting_end)
