-- `image_writing::numbers_of` meets its contract, by what each call ensures. Assumes nothing.
use Rattle.image_writing.proofs.Made.{numbers_made}
use Rattle.image_writing.proofs.numbers_of.Goals as goal

pub returns : goal.returns
returns c = search numbers_made
