use borrow.Author.Rules.{rules}
use Rattle.root.proofs.Laws.{halved, answer}
use Rattle.root.proofs.root.Goals as goal

pub loop-i-preserved : goal.loop-i-preserved
loop-i-preserved c = search (rules, halved)

pub returns-clause-each : goal.returns-clause-each
returns-clause-each c = (answer _ _ _ (search rules) c.loop-i.invariant).0
