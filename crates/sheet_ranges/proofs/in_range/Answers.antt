use borrow.Author.Rules.{rules}
use Rattle.sheet_ranges.proofs.Numbers.{too_low, too_high, by_one, by_hundred}
use Rattle.sheet_ranges.proofs.in_range.Goals as goal

pub returns-then-x-low : goal.returns-then-x-low
returns-then-x-low c = search (rules, too_low)

pub returns-then-high-x : goal.returns-then-high-x
returns-then-high-x c = search (rules, too_high)

pub returns-then-step-eq1 : goal.returns-then-step-eq1
returns-then-step-eq1 c = search (rules, by_one)

pub returns : goal.returns
returns c = search (rules, by_hundred)
