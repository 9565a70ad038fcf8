-- `image_writing::way_numbers` meets its contract, by what each call ensures. Assumes nothing.
use Rattle.image.specs.Images.{way_numbers}
use Rattle.image_writing.proofs.way_numbers.Goals as goal

pub returns : goal.returns
unfolding way_numbers
returns c = cc
