-- Lists of ticks through the boundary: on the image of a record they are the record's own, and on any other image all refused.
-- Assumes nothing.
use mathlib.Core.Path.{◌≡◌, refl, sym}
use mathlib.Core.Bool.{Bool, true, false}
use mathlib.Core.List.{List, [], ◌∷◌, map}
use Rattle.common.specs.Choice.{choose}
use Rattle.common.proofs.Cases.{no}
use Prim.Native.Nat.{ℕ}
use Rattle.ways.specs.declared.Direction.{Direction}
use Rattle.ways.specs.declared.Direction.TheVariants.{Raise, Lower}
use Rattle.drive.specs.declared.Drive.{Drive}
use Rattle.drive.specs.declared.Drive.TheVariants.{Resting, Asked, Moving}
use Rattle.drive_follow.specs.Follow.{rests_of}
use Rattle.std.specs.Prelude.{Option, None, Some}
use Rattle.command.specs.Idling.{waits_for}
use Rattle.command.specs.declared.Wait.{Wait}
use Rattle.record.specs.declared.Regulator.{Regulator}
use Rattle.record_limits.specs.Limits.{within_of}
use Rattle.claim.specs.Claim.{Tick, All, Kept}
use Rattle.rules.specs.Ticks.{tick_of}
use Rattle.claim.specs.Runs.{At}
use Rattle.claim.proofs.Runs.{same_run}
use Rattle.rules.specs.Lists.{seen, left_by, seen_on, ticks_from, opening}
use Rattle.rules.proofs.Claim.{kept}
use Rattle.coding_drive.specs.Numbers.{drive_image}
use Rattle.coding_wait.specs.Numbers.{wait_image}
use Rattle.image.specs.declared.Image.{Image}
use Rattle.image_input.specs.declared.Brought.{Brought}
use Rattle.image.specs.Images.{numbers_of, image_of, record_of}
use Rattle.image_input.specs.Bringing.{input_of}
use Rattle.image.proofs.Whole.{back}
use Rattle.hosting.specs.Hosting.{ticked_image, advanced_of, refused_image, is_accepted, image_tick_of}
use Rattle.hosting.specs.Lists.{image_seen, image_left_by, image_seen_on, image_ticks_from, image_rests, image_opening}
use Rattle.claim.proofs.Refused.{Refused, refused_kept}

-- the ticks of a list on m that opens as a call's does
abbrev pub ticks_on : Image → List Brought → List Tick
ticks_on m bs = image_ticks_from (image_rests m) m bs

-- ---- the image of a record

module _ (r : Regulator) where
  pub accepted_of : is_accepted (image_of r) ≡ within_of r
  unfolding is_accepted
  accepted_of = rw (back r)

  pub ticked_of : (b : Brought) → image_tick_of (image_of r) b ≡ ticked_image (tick_of r (input_of b))
  unfolding image_tick_of advanced_of choose
  ticked_of b = rw (back r)

  pub rest_of : (d : Drive) → r.state.drive ≡ d → image_rests (image_of r) ≡ rests_of r.state.drive
  unfolding image_of numbers_of drive_image
  rest_of Resting e = rw e
  rest_of (Asked d n true) e = rw e
  rest_of (Asked d n false) e = rw e
  rest_of (Moving d n true) e = rw e
  rest_of (Moving d n false) e = rw e

  low_to : (d : Direction) (n : ℕ) → r.state.memory.wait ≡ waits_for d n → (image_opening (image_of r)).low_wait ≡ (opening r).low_wait
  unfolding image_of numbers_of wait_image choose
  low_to Raise n e = rw e
  low_to Lower n e = rw e

  low_of : (w : Option Wait) → r.state.memory.wait ≡ w → (image_opening (image_of r)).low_wait ≡ (opening r).low_wait
  unfolding image_of numbers_of wait_image choose
  low_of None e = rw e
  low_of (Some w) e = low_to w.direction w.ticks e

  high_to : (d : Direction) (n : ℕ) → r.state.memory.wait ≡ waits_for d n → (image_opening (image_of r)).high_wait ≡ (opening r).high_wait
  unfolding image_of numbers_of wait_image choose
  high_to Raise n e = rw e
  high_to Lower n e = rw e

  high_of_lem : (w : Option Wait) → r.state.memory.wait ≡ w → (image_opening (image_of r)).high_wait ≡ (opening r).high_wait
  unfolding image_of numbers_of wait_image choose
  high_of_lem None e = rw e
  high_of_lem (Some w) e = high_to w.direction w.ticks e

  opening_of : image_opening (image_of r) ≡ opening r
  unfolding image_of
  opening_of = rw (accepted_of, low_of _ refl, high_of_lem _ refl)

  seen_of : (rest : Bool) (b : Brought) → image_seen rest (image_of r) b (ticked_image (tick_of r (input_of b))) ≡ seen rest r (input_of b) (tick_of r (input_of b))
  unfolding image_of input_of ticked_image
  seen_of rest b = rw (back r)

-- the list on a record, as the host holds it
abbrev held : At Regulator → At Image
held a = record { rest = a.rest; got = image_of a.got }

steps_of : (a : At Regulator) (b : Brought) → image_left_by (held a) b ≡ held (left_by a (input_of b))
unfolding ticked_image
steps_of a b = rw (ticked_of a.got b)

shows_of : (a : At Regulator) (b : Brought) → image_seen_on (held a) b ≡ seen_on a (input_of b)
shows_of a b = rw (ticked_of a.got b) (seen_of a.got a.rest b)

ticks_of_lem : (rest : Bool) (r : Regulator) (bs : List Brought) → image_ticks_from rest (image_of r) bs ≡ ticks_from rest r (map input_of bs)
ticks_of_lem rest r bs = same_run left_by seen_on image_left_by image_seen_on held input_of steps_of shows_of (record { rest = rest; got = r }) bs

pub kept_on : (r : Regulator) (bs : List Brought) → Kept (image_opening (image_of r)) (ticks_on (image_of r) bs)
unfolding image_of
kept_on r bs = rw (opening_of r, rest_of r _ refl, ticks_of_lem _ r bs) (kept r (map input_of bs))

-- ---- an image of no record

module _ (m : Image) (none : (record_of m).taken ≡ false) where
  pub none_accepted : is_accepted m ≡ false
  unfolding is_accepted
  none_accepted = rw none

  pub none_ticked : (b : Brought) → image_tick_of m b ≡ refused_image m
  unfolding image_tick_of
  none_ticked b = sym (no _ _ _ _ none refl)

  all_refused : (rest : Bool) (bs : List Brought) → All Refused (image_ticks_from rest m bs)
  unfolding refused_image
  all_refused rest [] = tt
  all_refused rest (b ∷ bs) = rw (none_ticked b) ((refl, refl), all_refused _ bs)

  pub none_kept : (bs : List Brought) → Kept (image_opening m) (ticks_on m bs)
  none_kept bs = refused_kept (image_opening m) (ticks_on m bs) none_accepted (all_refused _ bs)
