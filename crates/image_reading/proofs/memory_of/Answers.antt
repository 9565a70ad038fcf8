-- `image_reading::memory_of` meets its contract, by what each call ensures. Assumes nothing.
use Rattle.image.specs.Images.{state_of}
use Rattle.image_reading.proofs.memory_of.Goals as goal

pub returns : goal.returns
unfolding state_of
returns c = cc
