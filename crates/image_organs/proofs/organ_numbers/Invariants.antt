-- `image_organs::organ_numbers` meets its contract. The loop's invariant: the places passed, of both arrays, hold what the
-- definition says of them. Assumes nothing.
use mathlib.Core.Path.{◌≡◌}
use lib.ListN.{length}
use Rattle.common.proofs.Done.{done}
use Rattle.image_organs.proofs.Organs.{mark_at, count_at}
use Rattle.image_organs.proofs.organ_numbers.Given as goal

abbrev pub invariant-loop-i : goal.invariant-loop-i
invariant-loop-i l =
    (length l.initial.marks ≡ 7) × (length l.initial.counts ≡ 7) × (l.marks ≡ done mark_at l.i l.initial.marks l.organs l.organs) × (l.counts ≡ done count_at l.i l.initial.counts l.organs l.organs)
