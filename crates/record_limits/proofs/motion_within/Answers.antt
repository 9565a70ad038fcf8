-- `record_limits::motion_within` meets its contract, by what each call ensures. Assumes nothing.
use Rattle.record_limits.proofs.Made.{motion_made}
use Rattle.record_limits.proofs.motion_within.Goals as goal

pub returns : goal.returns
returns c = search motion_made
