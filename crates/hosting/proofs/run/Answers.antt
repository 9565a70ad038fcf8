-- `hosting::run` meets its contract, by what each call ensures. Assumes nothing.
use Rattle.hosting.proofs.Hosted.{run_made}
use Rattle.hosting.proofs.run.Goals as goal

pub returns : goal.returns
returns c = search run_made
