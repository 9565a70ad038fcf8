-- `sensing_protecting::protect` meets its contract, by what each call ensures. Assumes nothing.
use Rattle.sensing_protecting.proofs.Made.{protect_made}
use Rattle.sensing_protecting.proofs.protect.Goals as goal

pub returns : goal.returns
returns c = search protect_made
