-- `image_reading::state_of` meets its contract, by what each call ensures. Assumes nothing.
use Rattle.image_reading.proofs.Made.{state_made}
use Rattle.image_reading.proofs.state_of.Goals as goal

pub returns : goal.returns
returns c = search state_made
