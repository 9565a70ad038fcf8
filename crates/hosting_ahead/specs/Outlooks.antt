-- What a look ahead from an image answers. Definitions only.
use Rattle.std.specs.Prelude.{ℕ, List, eqb, replicate, Result, Ok, Err}
use Rattle.common.specs.Choice.{choose}
use Rattle.showing.specs.Showing.{field_count}
use Rattle.claim.specs.Runs.{after_of}
use Rattle.ahead.specs.declared.Outlook.{Outlook}
use Rattle.ahead.specs.declared.Refusal.{Refusal}
use Rattle.ahead.specs.Looking.{Answer, ahead_of, number_of, tick_of_begun, way_of_begun}
use Rattle.ahead_looking.specs.declared.Glance.{Glance}
use Rattle.coding_ways.specs.Numbers.{way_number}
use Rattle.image.specs.declared.Image.{Image}
use Rattle.image.specs.declared.Numbers.{Numbers}
use Rattle.image.specs.Images.{image_with, image_of, record_of}
use Rattle.image_input.specs.declared.Brought.{Brought}
use Rattle.image_input.specs.Bringing.{input_of}
use Rattle.hosting.specs.declared.Advanced.{Advanced}
use Rattle.hosting.specs.Hosting.{image_tick_of}
use Rattle.hosting_ahead.specs.declared.ImageOutlook.{ImageOutlook}

-- the answer in numbers, with the image of its record
unfoldable pub outlook_image : Answer → ImageOutlook
outlook_image o = record { refusal = o.refusal; tick = o.tick; way = way_number o.way; outputs = record { fields = o.outputs }; next = image_of o.next }

-- "tick 0, no way, outputs 0 and the record as given"
abbrev pub given_back : ℕ → Image → ImageOutlook
given_back refusal m = record { refusal = refusal; tick = 0; way = 0; outputs = record { fields = replicate field_count 0 }; next = m }

-- ---- as the code has them

-- one tick of the look: its outputs and its numbers
abbrev pub sight_of : Advanced → Glance Numbers
sight_of x = record { outputs = x.outputs.fields; next = x.numbers }

-- the answer in numbers, of a record that is in numbers already
abbrev pub in_numbers : List ℕ → Outlook Numbers → ImageOutlook
in_numbers s o =
    record {
      refusal = 0;
      tick = tick_of_begun o.begun;
      way = way_number (way_of_begun o.begun);
      outputs = record { fields = o.outputs };
      next = image_with s o.next;
    }

-- a look from the image m: a refusal leaves all as given
abbrev pub image_answer_of : Image → Result (Outlook Numbers) Refusal → ImageOutlook
image_answer_of m (Ok o) = in_numbers m.settings o
image_answer_of m (Err e) = given_back (number_of e) m

-- ---- the answer

-- the look from the image's record; 4 where there is none
unfoldable pub image_ahead_of : Image → Brought → ℕ → ImageOutlook
image_ahead_of m b n = choose (record_of m).taken (outlook_image (ahead_of (record_of m).state (input_of b) n)) (given_back 4 m)

-- the image that n ticks leave, each of which brings b
abbrev pub image_after : Image → Brought → ℕ → Image
image_after m b n = after_of (λ (q : Image) (c : Brought). (image_tick_of q c).next) m (replicate n b)

-- the ticks of a look over n: to the command, or else to the horizon
abbrev pub image_ticks_run : ℕ → ImageOutlook → ℕ
image_ticks_run n o = choose (eqb o.tick 0) n o.tick
