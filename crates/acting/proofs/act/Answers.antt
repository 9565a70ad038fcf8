use Rattle.rules.proofs.Acts.{act_made}
use Rattle.acting.proofs.act.Goals as goal

pub returns : goal.returns
returns c = search act_made
