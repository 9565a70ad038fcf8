-- `journal_reading::read_numbers` meets its contract.
-- Assumes nothing.
use mathlib.Core.Path.{sym, ◌∙◌}
use Rattle.std.proofs.Common.{rules}
use Rattle.journal.proofs.Scans.{stopped, no_room, fillable, read_all}
use Rattle.journal_reading.proofs.read_numbers.Goals as goal

pub returns-in_err-count-clause-answer : goal.returns-in_err-count-clause-answer
returns-in_err-count-clause-answer c =
    let p = (stopped _ c.args.list.now (sym c.in_err-count.was ∙ c.extent.ensures)).0 in search rules

pub returns-in_err-count-clause-numbers : goal.returns-in_err-count-clause-numbers
returns-in_err-count-clause-numbers c = (stopped _ c.args.list.now (sym c.in_err-count.was ∙ c.extent.ensures)).1

pub returns-then-list-count-clause-answer : goal.returns-then-list-count-clause-answer
returns-then-list-count-clause-answer c = (no_room _ c.args.list.now (sym c.in_ok-count.was ∙ c.extent.ensures) c.if-list-count.true).0

pub returns-then-list-count-clause-numbers : goal.returns-then-list-count-clause-numbers
returns-then-list-count-clause-numbers c = (no_room _ c.args.list.now (sym c.in_ok-count.was ∙ c.extent.ensures) c.if-list-count.true).1

pub fill_list-requires : goal.fill_list-requires
fill_list-requires c = fillable _ c.args.list.now (sym c.in_ok-count.was ∙ c.extent.ensures) c.if-list-count.false

pub returns-clause-answer : goal.returns-clause-answer
returns-clause-answer c = (read_all _ c.args.list.now (sym c.in_ok-count.was ∙ c.extent.ensures) c.if-list-count.false c.fill_list.ensures).0

pub returns-clause-numbers : goal.returns-clause-numbers
returns-clause-numbers c = (read_all _ c.args.list.now (sym c.in_ok-count.was ∙ c.extent.ensures) c.if-list-count.false c.fill_list.ensures).1
