use Rattle.rules.proofs.Claim.{promised}
use Rattle.rules.proofs.Made.{tick_made}
use Rattle.regulator.proofs.tick.Goals as goal

pub returns : goal.returns
returns c =
    let p = promised c.args.r c.args.i (tick_made c.args.r c.args.i c.step-stepped.ensures) in
    record { each = p.0; lasting = p.1.0; lists = p.1.1 }
