-- `record_limits::counts_within` meets its contract, by what each call ensures. Assumes nothing.
use Rattle.record_limits.proofs.Made.{counts_made}
use Rattle.record_limits.proofs.counts_within.Goals as goal

pub returns : goal.returns
returns c = search counts_made
