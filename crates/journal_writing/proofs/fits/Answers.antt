use Rattle.journal.proofs.Puts.{left_start, left_on, left_no, left_yes}
use borrow.Author.Rules.{rules}
use Rattle.journal_writing.proofs.fits.Goals as goal

pub loop-number-init : goal.loop-number-init
loop-number-init c = search (rules, left_start)

pub returns-then-left-n : goal.returns-then-left-n
returns-then-left-n c = search (rules, left_no)

pub loop-number-preserved : goal.loop-number-preserved
loop-number-preserved c = search (rules, left_on)

pub returns : goal.returns
returns c = search (rules, left_yes)
