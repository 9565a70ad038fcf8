-- `image_organs::organs_of` meets its contract. The loop's invariant: the places passed hold what the definition says of them.
-- Assumes nothing.
use mathlib.Core.Path.{◌≡◌}
use lib.ListN.{length}
use Rattle.common.proofs.Done.{done}
use Rattle.image_organs.specs.Places.{organ_of}
use Rattle.image_organs.proofs.organs_of.Given as goal

abbrev pub invariant-loop-i : goal.invariant-loop-i
invariant-loop-i l =
    (length l.initial.organs ≡ 7) × (l.organs ≡ done organ_of l.i l.initial.organs l.marks l.counts)
