-- What worked lists compute with, under one name: the definitions of this crate, and what is below them.
use Rattle.organ.proofs.Opened as of-organ
use Rattle.sensing_protecting.specs.Protecting.{amount_of, organ_input_of, organ_inputs_of, protected_of}

unfoldable pub opened : Unit {0}
unfolding amount_of organ_input_of organ_inputs_of protected_of of-organ.opened
opened = tt
