-- `hosting_ahead::image_ahead` meets its contract. Assumes nothing.
use borrow.Author.Rules.{rules}
use mathlib.Core.Path.{refl, ◌∙◌}
use Rattle.hosting_ahead.proofs.Outlooks.{Promised, promised}
use Rattle.hosting_ahead.proofs.image_ahead.Goals as goal

pub returns-in-Ok : goal.returns-in-Ok
returns-in-Ok c =
    let p : Promised c.args.m c.args.b c.args.horizon c.in_numbers.result = promised _ _ _ refl (search rules) (search rules) (c.in_numbers.ensures ∙ c.in-Ok.ensures) in
    record { each = p.0; refusal = p.1.0; left = p.1.1.0; lasting = p.1.1.1.0; calls = p.1.1.1.1 }

pub returns-in-Err : goal.returns-in-Err
returns-in-Err c =
    let p : Promised c.args.m c.args.b c.args.horizon c.given_back.result = promised _ _ _ refl (search rules) (search rules) (c.given_back.ensures ∙ c.in-Err.ensures) in
    record { each = p.0; refusal = p.1.0; left = p.1.1.0; lasting = p.1.1.1.0; calls = p.1.1.1.1 }
