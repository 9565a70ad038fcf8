-- What a tick of an image answers. Definitions only.
use Rattle.std.specs.Prelude.{ℕ, Bool, ◌&&◌, List, replicate}
use Rattle.showing.specs.Showing.{field_count}
use Rattle.common.specs.Choice.{choose}
use Rattle.record.specs.declared.Regulator.{Regulator}
use Rattle.record_limits.specs.Limits.{within_of}
use Rattle.rules.specs.declared.Ticked.{Ticked}
use Rattle.rules.specs.Ticks.{refusal_in, outputs_in, tick_of}
use Rattle.image.specs.declared.Image.{Image}
use Rattle.image_input.specs.declared.Brought.{Brought}
use Rattle.image.specs.Images.{numbers_in, image_with, image_of, record_of}
use Rattle.image_input.specs.Bringing.{input_of}
use Rattle.hosting.specs.declared.Advanced.{Advanced}
use Rattle.hosting.specs.declared.ImageTicked.{ImageTicked}
use Rattle.hosting.specs.declared.Outputs.{Outputs}

-- a tick's reply, with the image of the next record
unfoldable pub ticked_image : Ticked Regulator → ImageTicked
ticked_image t = record { refusal = refusal_in t.reply; outputs = record { fields = (outputs_in t.reply) }; next = image_of t.next }

unfoldable pub advanced_of : Regulator → Brought → ImageTicked
advanced_of r b = ticked_image (tick_of r (input_of b))

-- 4, outputs all 0, the image left as it was
unfoldable pub refused_image : Image → ImageTicked
refused_image m = record { refusal = 4; outputs = record { fields = replicate field_count 0 }; next = m }

-- the image is a record within its limits
unfoldable pub is_accepted : Image → Bool
is_accepted m = (record_of m).taken && within_of (record_of m).state

-- the tick of the image's record; refused where there is none
unfoldable pub image_tick_of : Image → Brought → ImageTicked
image_tick_of m b = choose (record_of m).taken (advanced_of (record_of m).state b) (refused_image m)

-- what a tick answers and leaves but for the settings
abbrev pub besides_of : ImageTicked → Advanced
besides_of t = record { refusal = t.refusal; outputs = t.outputs; numbers = numbers_in t.next }

-- and with them
abbrev pub whole_of : List ℕ → Advanced → ImageTicked
whole_of s x = record { refusal = x.refusal; outputs = x.outputs; next = image_with s x.numbers }

-- what a host that lent an image finds: the number returned, the outputs, and the image
abbrev pub found_of : ℕ → Outputs → Image → ImageTicked
found_of number outputs image = record { refusal = number; outputs = outputs; next = image }
