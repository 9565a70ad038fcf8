use borrow.Author.Rules.{rules}
use Rattle.sheet_ranges.specs.Columns.{times_k}
use Rattle.sheet_ranges.proofs.times_k.Goals as goal

pub returns : goal.returns
unfolding times_k
returns c = search rules
