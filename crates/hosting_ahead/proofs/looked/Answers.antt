-- `hosting_ahead::looked` meets its contract: a tick tells whether the image is accepted; then the horizon, then the look. Assumes
-- nothing.
use borrow.Author.Rules.{rules}
use mathlib.Core.Path.{refl}
use Rattle.hosting_ahead.proofs.Outlooks.{four_made, six_made, looked_made}
use Rattle.hosting_ahead.proofs.looked.Goals as goal

pub returns-then-tried-eq4 : goal.returns-then-tried-eq4
returns-then-tried-eq4 c =
    let known = c.numbers_in-numbers in
    four_made _ _ _ known.ensures (search (rules, known.type_inv)) (search (rules, known.type_inv)) c.advance-tried.ensures c.if-tried-eq4.true refl

pub returns-then-not-is_horizon : goal.returns-then-not-is_horizon
returns-then-not-is_horizon c =
    let known = c.numbers_in-numbers in
    six_made _ _ _ known.ensures (search (rules, known.type_inv)) (search (rules, known.type_inv)) c.advance-tried.ensures c.is_horizon.ensures c.if-tried-eq4.false c.if-not-is_horizon.true refl

pub returns : goal.returns
returns c =
    let known = c.numbers_in-numbers in
    looked_made _ _ _ known.ensures (search (rules, known.type_inv)) (search (rules, known.type_inv)) c.advance-tried.ensures c.is_horizon.ensures c.if-tried-eq4.false c.if-not-is_horizon.false c.look.ensures refl
