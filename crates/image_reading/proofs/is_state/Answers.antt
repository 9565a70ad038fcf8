-- `image_reading::is_state` meets its contract, by what each call ensures. Assumes nothing.
use Rattle.image.specs.Images.{is_state}
use Rattle.image_reading.proofs.is_state.Goals as goal

pub returns : goal.returns
unfolding is_state
returns c = cc
