use Rattle.showing.proofs.Made.{signals_made}
use Rattle.showing.proofs.signals_of.Goals as goal

pub returns : goal.returns
returns c = search signals_made
