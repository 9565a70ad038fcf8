-- What worked lists compute with, under one name: the definitions of this crate, and what is below them.
use Rattle.sheet_ranges.proofs.Opened as of-sheet-ranges
use Rattle.sheet.specs.Sheet.{judge_of, passes_of}

unfoldable pub opened : Unit {0}
unfolding judge_of passes_of of-sheet-ranges.opened
opened = tt
