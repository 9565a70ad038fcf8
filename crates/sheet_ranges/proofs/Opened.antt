-- What worked lists compute with, under one name: the definitions of this crate, and what is below them.
use Rattle.common.proofs.Opened as of-common
use Rattle.sheet_ranges.specs.Ranges.{first_from, taken_in, first_out_of_range}
use Rattle.sheet_ranges.specs.Table.{row_in, row_of, module_factor, factor_of, low_of, high_of, step_of, taken_of, taken_by}

unfoldable pub opened : Unit {0}
unfolding first_from taken_in first_out_of_range row_in row_of module_factor factor_of low_of high_of step_of taken_of taken_by of-common.opened
opened = tt
