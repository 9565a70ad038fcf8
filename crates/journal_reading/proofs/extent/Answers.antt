-- `journal_reading::extent` meets its contract.
-- Assumes nothing.
use mathlib.Core.Path.{sym, subst}
use mathlib.Core.List.{List}
use Prim.Native.Nat.{ℕ, ◌+◌}
use Rattle.journal.proofs.Scans.{Scanning, rest_of, no_rest, some_rest, scanning_stop, scanning_bad, scanning_on, scanning_whole, scanning_cut}
use Rattle.journal_reading.proofs.extent.Goals as goal

pub returns-in_default : goal.returns-in_default
returns-in_default c = scanning_stop _ c.loop-rest.invariant (some_rest _ c.loop-rest-test.ensures) c.in_default.ensures.number

pub returns-in_default-judge : goal.returns-in_default-judge
returns-in_default-judge c = scanning_bad _ c.loop-rest.invariant c.in-Some.ensures.number c.in_default-judge.ensures

pub loop-rest-preserved : goal.loop-rest-preserved
loop-rest-preserved c =
    let g = scanning_on _ c.loop-rest.invariant c.in-Some.ensures.number c.in-Some-judge.ensures in
    subst (λ (l : List ℕ). Scanning c.args.text.now c.in-Some-judge.next l (c.loop-rest.count + 1)) (sym (rest_of c.in-Some.n.count c.loop-rest.rest.now)) g

pub returns-then-has_ended : goal.returns-then-has_ended
returns-then-has_ended c = scanning_whole _ c.loop-rest.invariant (no_rest _ c.loop-rest-test.ensures) (sym c.if-has_ended.ensures)

pub returns : goal.returns
returns c = scanning_cut _ c.loop-rest.invariant (no_rest _ c.loop-rest-test.ensures) (sym c.if-has_ended.ensures)
