-- `sensing::sense` meets its contract, by what each call ensures. Assumes nothing.
use Rattle.sensing.proofs.Made.{sense_made}
use Rattle.sensing.proofs.sense.Goals as goal

pub returns : goal.returns
returns c = search sense_made
