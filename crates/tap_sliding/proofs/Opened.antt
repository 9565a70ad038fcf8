-- What worked lists compute with, under one name: the definitions of this crate.
use Rattle.tap_sliding.specs.Sliding.{stands_in, sliding_of}

unfoldable pub opened : Unit {0}
unfolding stands_in sliding_of
opened = tt
