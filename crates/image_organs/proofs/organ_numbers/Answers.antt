use Rattle.common.proofs.Done.{done, done_all}
use Rattle.image_organs.proofs.Organs.{mark_made, count_made, numbers_made}
use borrow.Author.Rules.{rules}
use Rattle.image_organs.proofs.organ_numbers.Goals as goal

pub loop-i-init : goal.loop-i-init
unfolding done
loop-i-init c = search rules

pub loop-i-preserved : goal.loop-i-preserved
loop-i-preserved c = search (rules, mark_made, count_made)

pub returns : goal.returns
returns c = search (rules, done_all, numbers_made)
