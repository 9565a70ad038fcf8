use Rattle.showing.specs.Showing.{fields_of}
use borrow.Author.Rules.{rules}
use Rattle.showing.proofs.fields.Goals as goal

pub returns : goal.returns
unfolding fields_of
returns c = search rules
