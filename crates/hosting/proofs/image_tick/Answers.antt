-- `hosting::image_tick` meets its contract: the tick of the numbers, with the settings put back. Assumes nothing.
use borrow.Author.Rules.{rules}
use Rattle.hosting.proofs.Hosted.{image_made, hosted}
use Rattle.hosting.proofs.image_tick.Goals as goal

pub returns : goal.returns
returns c =
    let known = c.numbers_in in
    let p = hosted c.args.m c.args.b {t = c.with_settings.result} known.ensures (search (rules, known.type_inv)) (search (rules, known.type_inv)) (search image_made) in
    record { each = p.0; refusal = p.1.0; left = p.1.1.0; lasting = p.1.1.1.0; lists = p.1.1.1.1 }
