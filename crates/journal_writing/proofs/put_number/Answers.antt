use borrow.Author.Rules.{rules}
use Rattle.journal.proofs.Puts.{going_start, here, going_on, going_end}
use native.Mathlib.Omega.{arith}
use Rattle.journal_writing.proofs.put_number.Goals as goal

pub loop-rest-init : goal.loop-rest-init
loop-rest-init c = search (rules, going_start)

pub bounds-buffer-end : goal.bounds-buffer-end
bounds-buffer-end c = search (rules, here)

pub overflow_add-end : goal.overflow_add-end
overflow_add-end c = omega (arith, here _ _ _ c.loop-rest.invariant)

pub loop-rest-preserved : goal.loop-rest-preserved
loop-rest-preserved c = search (rules, going_on)

pub bounds-buffer-end-2 : goal.bounds-buffer-end-2
bounds-buffer-end-2 c = search (rules, here)

pub returns : goal.returns
returns c = search (rules, going_end)
