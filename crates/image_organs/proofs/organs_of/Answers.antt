use Rattle.common.proofs.Done.{done, done_on, done_all}
use Rattle.image_organs.specs.Places.{organs_of}
use borrow.Author.Rules.{rules}
use Rattle.image_organs.proofs.organs_of.Goals as goal

pub loop-i-init : goal.loop-i-init
unfolding done
loop-i-init c = search rules

pub loop-i-preserved : goal.loop-i-preserved
loop-i-preserved c = search (rules, done_on)

pub returns : goal.returns
unfolding organs_of
returns c = search (rules, done_all)
