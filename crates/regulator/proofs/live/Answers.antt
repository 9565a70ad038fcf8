use Rattle.rules.proofs.Made.{live_made}
use Rattle.regulator.proofs.live.Goals as goal

pub returns : goal.returns
returns c = search live_made
