-- `record_limits::within` meets its contract, by what each call ensures. Assumes nothing.
use Rattle.record_limits.proofs.Made.{within_made}
use Rattle.record_limits.proofs.within.Goals as goal

pub returns : goal.returns
returns c = search within_made
