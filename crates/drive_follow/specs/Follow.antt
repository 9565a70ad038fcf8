-- Rule 7 of 01: a drive with a switching contact over one tick. Definitions only.
use Rattle.std.specs.Prelude.{ℕ, ◌+◌, Bool, true, false, not, ◌&&◌, Option, None, Some, ltb, leb}
use Rattle.common.specs.Choice.{choose}
use Rattle.ways.specs.declared.Direction.{Direction}
use Rattle.drive.specs.declared.Drive.{Drive}
use Rattle.drive.specs.declared.Drive.TheVariants.{Resting, Asked, Moving}
use Rattle.fault.specs.declared.Fault.{Fault}
use Rattle.fault.specs.declared.Fault.TheVariants.{RunAway, NotStarted, Long, Fast}
use Rattle.drive_follow.specs.declared.Contact.{Contact}
use Rattle.drive_follow.specs.declared.Followed.{Followed}

-- no fault, and no move ended
abbrev pub unmoved_of : Drive → Followed
unmoved_of d = record { drive = d; fault = None; ended = None; operation = false }

-- "a fault brings rest"
abbrev pub faulty_of : Option Fault → Followed
faulty_of f = record { drive = Resting; fault = f; ended = None; operation = false }

-- "an ended move, fast or not, .. adds 1 to operations"
abbrev pub ended_of : Direction → Option Fault → Followed
ended_of d f = record { drive = Resting; fault = f; ended = Some d; operation = true }

-- an asked command stays, a tick older, while its age is below a limit; on the tick that reaches it something else comes
abbrev pub stay_of : Direction → ℕ → Bool → ℕ → Followed → Followed
stay_of d age automatic limit over = choose (ltb (age + 1) limit) (unmoved_of (Asked d (age + 1) automatic)) over

-- at a sliding tap: "an own move that way starts, length 1", if there is a last direction
unfoldable pub own_of : Option Direction → Followed
own_of None = faulty_of (Some RunAway)
own_of (Some d) = unmoved_of (Moving d 1 false)

-- "resting, contact closed, no fault: run-away, unless the tap is a sliding one and there is a last direction"
unfoldable pub rest_of : Contact → Followed
rest_of x = choose (x.closed && not x.faulty) (choose x.sliding (own_of x.last) (faulty_of (Some RunAway))) (unmoved_of Resting)

-- "contact closed starts the move, length 1; else open on the T5th tick after the command's first is fault 'not started'"
unfoldable pub asked_of : Direction → ℕ → Bool → Contact → Followed
asked_of d age automatic x =
    choose x.closed (unmoved_of (Moving d 1 true))
    (choose (ltb (age + 1) x.t5) (unmoved_of (Asked d (age + 1) automatic)) (faulty_of (Some NotStarted)))

-- "closed adds 1, above T4 is 'long'; open ends the move, and 'fast' if commanded and shorter than T6"
unfoldable pub moving_of : Direction → ℕ → Bool → Contact → Followed
moving_of d n commanded x =
    choose x.closed
    (choose (leb (n + 1) x.t4) (unmoved_of (Moving d (n + 1) commanded)) (faulty_of (Some Long)))
    (choose (commanded && ltb n x.t6) (ended_of d (Some Fast)) (ended_of d None))

-- by what the drive was as the tick started
unfoldable pub supervised_of : Drive → Contact → Followed
supervised_of Resting x = rest_of x
supervised_of (Asked d age automatic) x = asked_of d age automatic x
supervised_of (Moving d n commanded) x = moving_of d n commanded x

-- "local drive: at rest, wait 0, no supervision"
unfoldable pub follow_of : Drive → Contact → Followed
follow_of d x = choose x.local (unmoved_of Resting) (supervised_of d x)

-- at rest: no asked command and no move
abbrev pub rests_of : Drive → Bool
rests_of Resting = true
rests_of (Asked d age automatic) = false
rests_of (Moving d n commanded) = false

-- limits of a record: "an asked command's age (ticks after its first) below T5; a move's length 1–T4"
unfoldable pub within_of : Drive → ℕ → ℕ → Bool
within_of Resting t4 t5 = true
within_of (Asked d age automatic) t4 t5 = ltb age t5
within_of (Moving d n commanded) t4 t5 = leb 1 n && leb n t4
