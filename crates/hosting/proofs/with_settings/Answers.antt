-- `hosting::with_settings` meets its contract, by what each call ensures. Assumes nothing.
use Rattle.hosting.proofs.with_settings.Goals as goal

pub returns : goal.returns
returns c = cc
