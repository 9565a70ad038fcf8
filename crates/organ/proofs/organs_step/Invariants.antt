-- The places passed, of both arrays, hold what the definition says of them.
use Rattle.std.proofs.Common.{◌≡◌, length}
use Rattle.common.proofs.Done.{done}
use Rattle.organ.specs.Organs.{organ_of, trip_of}
use Rattle.organ.proofs.organs_step.Given as goal

abbrev pub invariant-loop-i : goal.invariant-loop-i
invariant-loop-i l =
    (length l.initial.trips ≡ 7) × (l.next ≡ done organ_of l.i l.organs l.organs l.xs) × (l.trips ≡ done trip_of l.i l.initial.trips l.organs l.xs)
