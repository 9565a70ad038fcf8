-- What the start of an image answers. Definitions only.
use Rattle.record_starting.specs.Starting.{Start}
use Rattle.image.specs.Images.{image_of}
use Rattle.boundary.specs.declared.Started.{Started}

-- the paper's number and slot, with the image of the record
unfoldable pub started_image : Start → Started
started_image s = record { number = s.number; slot = s.slot; image = image_of s.state }
