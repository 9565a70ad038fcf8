-- The lowest slot out of range is the lowest from the loop's slot on, by columns that are the scaled rows of the table.
use Rattle.std.proofs.Common.{◌≤◌}
use Rattle.slots.specs.Slots.{slots}
use Rattle.sheet_ranges.proofs.Tables.{Columns}
use Rattle.sheet_ranges.proofs.First.{From}
use Rattle.sheet_ranges.proofs.first_out_of_range.Given as goal

abbrev pub invariant-loop-i : goal.invariant-loop-i
invariant-loop-i l = record { within : l.i ≤ slots; columns : Columns l.s l.lows l.highs l.steps; from : From l.s l.i }
