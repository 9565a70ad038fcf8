use Rattle.journal.proofs.Puts.{listing_start, number_fits, listing_on, listing_end}
use borrow.Author.Rules.{rules}
use Rattle.journal_writing.proofs.put_list.Goals as goal

pub loop-number-init : goal.loop-number-init
loop-number-init c = search (rules, listing_start)

pub put_number-end-requires : goal.put_number-end-requires
put_number-end-requires c = search (rules, number_fits)

pub loop-number-preserved : goal.loop-number-preserved
loop-number-preserved c = search (rules, listing_on)

pub returns : goal.returns
returns c = search (rules, listing_end)
