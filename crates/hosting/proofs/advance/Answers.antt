-- `hosting::advance` meets its contract: the tick of the state that the numbers give, or its refusal. Assumes nothing.
use Rattle.hosting.specs.Hosting.{refused_image}
use Rattle.hosting.proofs.Hosted.{state_advanced, none_advanced}
use Rattle.hosting.proofs.advance.Goals as goal

pub returns-then-is_state : goal.returns-then-is_state
returns-then-is_state c = search state_advanced

pub returns-else-is_state : goal.returns-else-is_state
unfolding refused_image
returns-else-is_state c = search none_advanced
