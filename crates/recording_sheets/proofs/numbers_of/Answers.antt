use borrow.Author.Rules.{rules}
use Rattle.recording_sheets.proofs.Starts.{none_read_lem, one_read, all_read}
use Rattle.recording_sheets.proofs.numbers_of.Goals as goal

pub loop-i-init : goal.loop-i-init
loop-i-init c = search (rules, none_read_lem)

pub loop-i-preserved : goal.loop-i-preserved
loop-i-preserved c = search (rules, one_read)

pub returns : goal.returns
returns c = search (rules, all_read)
