-- The measure of `journal_reading::groups` is the count of groups.
use Rattle.journal_reading.proofs.+groups.Given as goal

abbrev pub decreases-groups : goal.decreases-groups
decreases-groups l = l.left
