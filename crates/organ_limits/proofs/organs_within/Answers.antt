use Rattle.std.proofs.Common.{rules, tests, ◌∙◌, ℕ}
use Rattle.std.proofs.lemmas.Iterator.{YieldsList-from_slice, YieldsList-from_zip}
use Rattle.std.proofs.lemmas.Iterator.Search.{all_from_yields_List}
use Rattle.organ.specs.declared.Organ.{Organ}
use Rattle.organ_limits.specs.Limits.{organ_within}
use Rattle.organ_limits.proofs.Within.{all_within}
use Rattle.organ_limits.proofs.organs_within.Goals as goal

pub returns : goal.returns
returns c =
    all_from_yields_List (λ (p : Organ × ℕ). organ_within p.1 p.0) c.all.new.self _ c.all.result c.all.ensures.ran
    (YieldsList-from_zip (YieldsList-from_slice c.args.organs cc) (YieldsList-from_slice c.args.delays cc))
    (λ x b q k. search (rules, tests))
    ∙ all_within c.args.organs c.args.delays
