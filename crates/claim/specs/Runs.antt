-- A run over a list: each input gets the state that the last one left. It is over any state, any input and any step, and serves the lists of
-- records and those of a host's images. Definitions only.
use Rattle.std.specs.Prelude.{Bool, List, [], ◌∷◌}

-- what is seen of each input on its state; `next` is the step
abbrev pub run_of : {S I T : Type 0} → (S → I → S) → (S → I → T) → S → List I → List T
run_of next seen s [] = []
run_of next seen s (i ∷ is) = seen s i ∷ run_of next seen (next s i) is

-- the state after a list
abbrev pub after_of : {S I : Type 0} → (S → I → S) → S → List I → S
after_of next s [] = s
after_of next s (i ∷ is) = after_of next (next s i) is

-- a record, or an image, as a tick of a list gets it: with whether the drive is at rest
pub record At (R : Type 0) : Type 0 where
  pub rest : Bool
  pub got : R
