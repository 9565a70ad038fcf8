use borrow.Author.Rules.{rules}
use Rattle.recording_lines.proofs.Texts.{going_start, number_fits, mark_fits, going_on, going_end}
use Rattle.recording_lines.proofs.put_numbers.Goals as goal

-- `recording_lines::put_numbers` meets its contract: the numbers before the loop's are written.

-- Assumes nothing.

pub loop-i-init : goal.loop-i-init
loop-i-init c = search (rules, going_start)

pub put_number-end-requires : goal.put_number-end-requires
put_number-end-requires c = search (rules, number_fits)

pub put-end-requires : goal.put-end-requires
put-end-requires c = search (rules, mark_fits)

pub loop-i-preserved : goal.loop-i-preserved
loop-i-preserved c = search (rules, going_on)

pub returns : goal.returns
returns c = search (rules, going_end)
