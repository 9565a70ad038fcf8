-- `ahead_looking::look` meets its contract. It ends before its first tick, or after its last one.
-- Assumes nothing.
use borrow.Author.Rules.{rules}
use native.Mathlib.Omega.{arith}
use mathlib.Core.Path.{refl}
use Rattle.ahead_looking.proofs.Looks.{ends, going_on, finds}
use Rattle.ahead_looking.proofs.look.Goals as goal
use Rattle.ahead_looking.proofs.look.Goals.{else-loop-tick-test, then-loop-tick-test+in_default+else-tick-horizon}

pub returns-in-Some : goal.returns-in-Some
returns-in-Some g c = finds c.loop-tick.invariant (search rules) c.tick-seen.ensures c.in-Some.ensures refl

pub loop-tick-preserved : goal.loop-tick-preserved
loop-tick-preserved g c = going_on c.loop-tick.invariant (search rules) c.tick-seen.ensures c.begun.ensures c.in_default.not-Some refl

pub returns : goal.returns
returns g c =
    elim c.loop-tick-test.branch [
      | else-loop-tick-test w ↦ rw (w.next-is, w.outputs-is) (ends c.loop-tick.invariant w.loop-tick-test.false)
      | then-loop-tick-test+in_default+else-tick-horizon w ↦
          rw (w.next-is, w.outputs-is) (ends (going_on c.loop-tick.invariant (search rules) w.tick-seen.ensures w.begun.ensures w.in_default.not-Some refl) (omega arith))
    ]
