use Rattle.rules.proofs.Made.{step_out, step_live, step_refused}
use Rattle.regulator.proofs.step.Goals as goal

pub returns-then-s-c : goal.returns-then-s-c
returns-then-s-c c = search step_out

pub returns-else-s-c : goal.returns-else-s-c
returns-else-s-c c = search step_live

pub returns-else-within : goal.returns-else-within
returns-else-within c = search step_refused
