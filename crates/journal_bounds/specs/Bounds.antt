-- The bound of each output field (02, ticket 9). Definitions only.
use Rattle.std.specs.Prelude.{ℕ, ◌+◌, Bool, true, ◌&&◌, List, [], ◌∷◌, leb}
use Rattle.journal.specs.Rules.{highest_value}

-- one test over the fields, from the field f on
unfoldable pub bounded_from : ℕ → List ℕ → Bool
bounded_from f [] = true
bounded_from f (n ∷ ns) = leb n (highest_value f) && bounded_from (f + 1) ns
