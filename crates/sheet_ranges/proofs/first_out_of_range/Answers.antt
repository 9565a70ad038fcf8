use mathlib.Core.Path.{refl}
use borrow.Author.Rules.{rules}
use borrow.Author.Tests.{not-true, not-false}
use Rattle.common.specs.Choice.{choose}
use Rattle.sheet_ranges.specs.Table.{row_of, row_in}
use Rattle.sheet_ranges.specs.Columns.{low_column, high_column, step_column}
use Rattle.sheet_ranges.proofs.Tables.{factor_ge, factor_le, columns, step_kind}
use Rattle.sheet_ranges.proofs.First.{from_start, first_on, first_here, first_past}
use Rattle.sheet_ranges.proofs.first_out_of_range.Goals as goal

pub times_k-lows-requires : goal.times_k-lows-requires
times_k-lows-requires c = search (rules, factor_ge, factor_le)

pub times_k-highs-requires : goal.times_k-highs-requires
times_k-highs-requires c = search (rules, factor_ge, factor_le)

pub loop-i-init : goal.loop-i-init
unfolding low_column high_column step_column row_of row_in choose
loop-i-init c =
    record {
      within = search rules;
      columns = columns _ c.module_factor-k.ensures c.times_k-lows.ensures c.times_k-highs.ensures refl;
      from = from_start _;
    }

pub in_range-requires : goal.in_range-requires
in_range-requires c = search (rules, step_kind)

pub returns-then-not-in_range : goal.returns-then-not-in_range
returns-then-not-in_range c =
    let v = c.loop-i.invariant in
    first_here _ v.from (search rules) v.columns c.in_range.ensures (search (rules, not-true))

pub loop-i-preserved : goal.loop-i-preserved
loop-i-preserved c =
    let v = c.loop-i.invariant in
    record {
      within = search rules;
      columns = v.columns;
      from = first_on _ v.from (search rules) v.columns c.in_range.ensures (search (rules, not-false));
    }

pub returns : goal.returns
returns c = search (rules, first_past)
