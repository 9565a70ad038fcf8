-- `journal_reading::groups` meets its contract.
-- Assumes nothing.
use Rattle.std.proofs.Common.{rules, arith, sym, ◌∙◌}
use Rattle.journal.proofs.Decoded.{none_before, no_groups, no_bytes, last_group, first_group, more_fits}
use Rattle.journal_reading.proofs.+groups.Goals as goal

pub returns-then-left-eq0 : goal.returns-then-left-eq0
returns-then-left-eq0 t c = search (rules, no_groups)

pub returns-in_err-b : goal.returns-in_err-b
returns-in_err-b t c = c.from_residual.ensures ∙ no_bytes _ _ c.in_err-b.ensures.cases

pub returns-then-b-lt128 : goal.returns-then-b-lt128
returns-then-b-lt128 t c = rw (c.in_ok-b.ensures.cases.0, c.from.ensures) (last_group c.args.left _ c.in_ok-b.rest.now c.if-left-eq0.false c.if-b-lt128.true)

pub returns-in_err-groups : goal.returns-in_err-groups
returns-in_err-groups t c =
    c.from_residual-in_err-groups.ensures
    ∙ rw c.in_ok-b.ensures.cases.0 (sym (none_before _) ∙ first_group c.args.left _ _ c.if-left-eq0.false c.in_err-groups.ensures c.if-b-lt128.false)

pub group_before-requires : goal.group_before-requires
group_before-requires t c = more_fits _ _ c.in_ok-groups.ensures (omega arith)

pub returns : goal.returns
returns t c =
    c.group_before.ensures ∙ rw c.in_ok-b.ensures.cases.0 (first_group c.args.left _ _ c.if-left-eq0.false c.in_ok-groups.ensures c.if-b-lt128.false)
