-- Lists of ticks through the boundary, as demand 3 speaks of them (crate `claim`): what a host sees of its images and outputs.
use Rattle.std.specs.Prelude.{ℕ, Bool, List, ◌∷◌, eqb}
use Rattle.common.specs.Choice.{choose}
use Rattle.ways.specs.declared.Direction.TheVariants.{Raise, Lower}
use Rattle.claim.specs.Claim.{Tick, Opening, rest_after}
use Rattle.claim.specs.Runs.{run_of, At}
use Rattle.rules.specs.Lists.{delay_in}
use Rattle.coding_wait.specs.declared.WaitImage.{WaitImage}
use Rattle.image.specs.declared.Image.{Image}
use Rattle.image_input.specs.declared.Brought.{Brought}
use Rattle.image.specs.Images.{record_of}
use Rattle.image_input.specs.Bringing.{input_of}
use Rattle.hosting.specs.declared.ImageTicked.{ImageTicked}
use Rattle.hosting.specs.Hosting.{is_accepted, image_tick_of}

-- the tick that starts at rest or not, got m and b, and gave t. *Delay in force*: "the one that rule 9 names on that tick", of the image's
-- record
abbrev pub image_seen : Bool → Image → Brought → ImageTicked → Tick
image_seen rest m b t =
    record {
      rest = rest;
      settings = m.settings;
      low_delay = delay_in Raise (record_of m).state (input_of b);
      high_delay = delay_in Lower (record_of m).state (input_of b);
      contacts = b.contacts;
      refusal = t.refusal;
      outputs = t.outputs.fields;
    }

-- each tick gets the image that the last one returned
abbrev pub image_left_by : At Image → Brought → At Image
image_left_by a b = record { rest = rest_after (image_tick_of a.got b).outputs.fields; got = (image_tick_of a.got b).next }

abbrev pub image_seen_on : At Image → Brought → Tick
image_seen_on a b = image_seen a.rest a.got b (image_tick_of a.got b)

-- the ticks of a list
abbrev pub image_ticks_from : Bool → Image → List Brought → List Tick
image_ticks_from rest m bs = run_of image_left_by image_seen_on (record { rest = rest; got = m }) bs

-- *at rest*, "for the first tick, the record handed in holds no asked command and no move": the image's drive is of kind 0
abbrev pub image_rests : Image → Bool
image_rests m = eqb m.drive.kind 0

-- the list that a call opens: its own tick, which got m and b and gave t, and then the ticks of `later`
abbrev pub image_list_from : Image → Brought → ImageTicked → List Brought → List Tick
image_list_from m b t later = image_seen (image_rests m) m b t ∷ image_ticks_from (rest_after t.outputs.fields) t.next later

-- the ticks that a wait has lasted to a side, 1 for low and 2 for high: 0 where it is to the other
abbrev pub image_held_for : ℕ → WaitImage → ℕ
image_held_for side w = choose (eqb w.side side) w.ticks 0

-- what a list on the image m begins on
abbrev pub image_opening : Image → Opening
image_opening m =
    record {
      within = is_accepted m;
      settings = m.settings;
      low_wait = image_held_for 1 m.wait;
      high_wait = image_held_for 2 m.wait;
    }
