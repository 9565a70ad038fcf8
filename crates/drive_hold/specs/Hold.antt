-- 02, ticket 2: a drive without a switching contact over one tick. Definitions only.
use Rattle.std.specs.Prelude.{ℕ, ◌+◌, Bool, true, false, not, ◌||◌, ltb, None, Some}
use Rattle.common.specs.Choice.{choose}
use Rattle.ways.specs.declared.Direction.{Direction}
use Rattle.ways.specs.Ways.{other_of}
use Rattle.blocks.specs.Blocked.{opposed_of}
use Rattle.fault.specs.declared.Fault.TheVariants.{Long}
use Rattle.drive.specs.declared.Drive.{Drive}
use Rattle.drive.specs.declared.Drive.TheVariants.{Resting, Asked, Moving}
use Rattle.drive_follow.specs.declared.Followed.{Followed}
use Rattle.drive_hold.specs.declared.Holding.{Holding}
use Rattle.drive_follow.specs.Follow.{unmoved_of, faulty_of}

-- "each command counts as one operation when it ends without a fault, local drive or out"; no move has ended
abbrev pub released_of : Followed
released_of = record { drive = Resting; fault = None; ended = None; operation = true }

-- a tick that is "in band, on the other side, manual or blocked for it", a command of this direction: its mode or its direction
unfoldable pub ends_of : Direction → Holding → Bool
ends_of d x = x.in_band || other_of x.side (Some d) || not x.automatic || (x.blocks.automatic || opposed_of x.blocks d)

-- "an automatic command stays until the first tick that is [so]; on the T4th tick after its first, if none came, that tick included ..,
-- it ends as 'long'"
unfoldable pub automatic_of : Direction → ℕ → Holding → Followed
automatic_of d age x = choose (ends_of d x) released_of (choose (ltb (age + 1) x.t4) (unmoved_of (Asked d (age + 1) true)) (faulty_of (Some Long)))

-- "a manual command stays for T4 ticks, whatever blocks arise": it ends on the T4th tick after its first
unfoldable pub manual_of : Direction → ℕ → Holding → Followed
manual_of d age x = choose (ltb (age + 1) x.t4) (unmoved_of (Asked d (age + 1) false)) released_of

abbrev pub held_of : Direction → ℕ → Bool → Holding → Followed
held_of d age automatic x = choose automatic (automatic_of d age x) (manual_of d age x)

-- by what the drive was as the tick started; "bit 1 is ignored", and an accepted record "holds no move"
unfoldable pub held_from : Drive → Holding → Followed
held_from Resting x = unmoved_of Resting
held_from (Asked d age automatic) x = held_of d age automatic x
held_from (Moving d n commanded) x = unmoved_of Resting

-- rule 7 of 01: "local drive: at rest, wait 0, no supervision"
unfoldable pub hold_of : Drive → Holding → Followed
hold_of d x = choose x.local (unmoved_of Resting) (held_from d x)

-- limits of a record: "holds no move .., and a held command's age is below T4"
unfoldable pub within_of : Drive → ℕ → Bool
within_of Resting t4 = true
within_of (Asked d age automatic) t4 = ltb age t4
within_of (Moving d n commanded) t4 = false
