-- `image_writing::image_of` meets its contract, by what each call ensures. Assumes nothing.
use Rattle.std.proofs.Common.{◌≡◌}
use Rattle.image.specs.Images.{image_of}
use Rattle.image_writing.proofs.Made.{imaged}
use Rattle.image_writing.proofs.image_of.Goals as goal

pub returns : goal.returns
unfolding image_of
returns c = let e : c.image_with.result ≡ image_of c.args.r = cc in record { each = e; back = (imaged c.args.r e).1 }
