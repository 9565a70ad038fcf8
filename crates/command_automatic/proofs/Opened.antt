-- What worked lists compute with, under one name: the definitions of this crate, and what is below them.
use Rattle.blocks.proofs.Opened as of_blocks
use Rattle.command_automatic.specs.Automatic.{ticks_of, waited_of, delay_of, wait_on_of, toward_of, sided_of, kept_of, repeat_of}

unfoldable pub opened : Unit {0}
unfolding ticks_of waited_of delay_of wait_on_of toward_of sided_of kept_of repeat_of of_blocks.opened
opened = tt
