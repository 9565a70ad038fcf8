-- `journal_writing::check_list` meets its contract.
-- Assumes nothing.
use Rattle.journal.proofs.Checks.{checking_start, checking_stop, checking_on, checking_whole, checking_cut}
use borrow.Author.Rules.{rules}
use Rattle.journal_writing.proofs.check_list.Goals as goal

pub loop-i-init : goal.loop-i-init
loop-i-init c = search (rules, checking_start)

pub returns-in-None : goal.returns-in-None
returns-in-None c = checking_stop _ c.loop-i.invariant c.loop-i-test.true c.in-None.ensures

pub loop-i-preserved : goal.loop-i-preserved
loop-i-preserved c = checking_on _ c.loop-i.invariant c.loop-i-test.true c.in-Some.ensures

pub returns-then-has_ended : goal.returns-then-has_ended
returns-then-has_ended c = search (rules, checking_whole)

pub returns : goal.returns
returns c = search (rules, checking_cut)
