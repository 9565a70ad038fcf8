use borrow.Author.Rules.{rules}
use Rattle.busbar_current.proofs.Values.{good_within, current_within}
use Rattle.busbar_compensation.proofs.voltage.Goals as goal

pub less_drop-requires : goal.less_drop-requires
less_drop-requires c = search (good_within, current_within, rules)
