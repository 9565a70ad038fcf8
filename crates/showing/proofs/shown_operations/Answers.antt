use Rattle.common.proofs.Cases.{cases}
use Rattle.showing.specs.Showing.{counted_of}
use Rattle.showing.proofs.shown_operations.Goals as goal

pub returns-then-counts : goal.returns-then-counts
unfolding counted_of
returns-then-counts c = search cases

pub returns-else-counts : goal.returns-else-counts
unfolding counted_of
returns-else-counts c = search cases
