use Rattle.std.proofs.Common.{rules, tests, ◌∙◌}
use Rattle.std.proofs.lemmas.Iterator.{YieldsList-from_slice}
use Rattle.std.proofs.lemmas.Iterator.Search.{all_from_yields_List}
use Rattle.coding_flag.specs.Numbers.{is_bit}
use Rattle.image_organs.proofs.Organs.{all_bits}
use Rattle.image_organs.proofs.are_marks.Goals as goal

pub returns : goal.returns
returns c =
    all_from_yields_List is_bit _ _ c.all.result c.all.ensures.ran (YieldsList-from_slice c.args.marks cc) (λ x b q k. search (rules, tests)) ∙ all_bits c.args.marks
