-- `ahead_looking::look_ahead` meets its contract.
-- Assumes nothing.
use mathlib.Core.Path.{refl}
use Rattle.ahead.proofs.Laws.{promised}
use Rattle.ahead_looking.proofs.Looks.{ahead_4, ahead_6, ahead_looks}
use Rattle.ahead_looking.proofs.look_ahead.Goals as goal

pub returns-then-not-within : goal.returns-then-not-within
returns-then-not-within c =
    let p = promised c.args.r c.args.i c.args.horizon (ahead_4 _ _ _ c.within.ensures c.if-not-within.true refl) in
    record { each = p.0; refusal = p.1.0; lasting = p.1.1 }

pub returns-then-not-is_horizon : goal.returns-then-not-is_horizon
returns-then-not-is_horizon c =
    let p = promised c.args.r c.args.i c.args.horizon (ahead_6 _ _ _ c.within.ensures c.is_horizon.ensures c.if-not-within.false c.if-not-is_horizon.true refl) in
    record { each = p.0; refusal = p.1.0; lasting = p.1.1 }

pub returns : goal.returns
returns c =
    let p = promised c.args.r c.args.i c.args.horizon (ahead_looks _ _ _ c.within.ensures c.is_horizon.ensures c.if-not-within.false c.if-not-is_horizon.false c.rests.ensures c.look-found.ensures refl) in
    record { each = p.0; refusal = p.1.0; lasting = p.1.1 }
