-- What worked lists compute with, under one name: the definitions of this crate, and what is below them.
use Rattle.drive_follow.proofs.Opened as of-drive-follow
use Rattle.command_pairs.proofs.Opened as of-command-pairs
use Rattle.command_deciding.proofs.Opened as of-command-deciding
use Rattle.sensing_assessing.proofs.Opened as of-sensing-assessing
use Rattle.acting_judging.proofs.Opened as of-acting-judging
use Rattle.acting_commanding.specs.Commanding.{ask_of, situation_of, decision_of, regulated_of, drops_of, kept_press_of}

unfoldable pub opened : Unit {0}
unfolding ask_of situation_of decision_of regulated_of drops_of kept_press_of of-drive-follow.opened of-command-pairs.opened of-command-deciding.opened of-sensing-assessing.opened of-acting-judging.opened
opened = tt
