-- `journal_reading::fill_list` meets its contract.
-- Assumes nothing.
use mathlib.Core.Path.{sym, subst}
use mathlib.Core.List.{List}
use Prim.Native.Nat.{ℕ, ◌+◌}
use lib.ListN.{set}
use Rattle.journal.proofs.Scans.{Filling, rest_of, filling_start, place_fits, filling_on, filling_end}
use borrow.Author.Rules.{rules}
use Rattle.journal_reading.proofs.fill_list.Goals as goal

pub loop-n-init : goal.loop-n-init
loop-n-init c = search (rules, filling_start)

pub bounds-list-i : goal.bounds-list-i
bounds-list-i c = place_fits _ _ c.loop-n.invariant c.in-Some.ensures.number

pub loop-n-preserved : goal.loop-n-preserved
loop-n-preserved c =
    let g = filling_on _ _ c.loop-n.invariant c.in-Some.ensures.number in
    subst (λ (l : List ℕ). Filling c.args.text.now c.args.list.now (set c.loop-n.list c.loop-n.i c.in-Some.n.value) l (c.loop-n.i + 1)) (sym (rest_of c.in-Some.n.count c.loop-n.rest.now)) g

pub returns : goal.returns
returns c = filling_end _ _ c.loop-n.invariant c.requires.1 c.in_default.ensures.number
