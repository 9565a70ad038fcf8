-- What stands at the front of a list.
-- Assumes nothing.
use Rattle.std.proofs.Common.{ℕ, ◌≤◌, sym, List, length}
use Rattle.std.proofs.lemmas.List.{length-take-le}
use Rattle.files.specs.Counts.{IsPrefixLen}

pub prefix_len_of_le : (n : ℕ) (xs : List ℕ) → n ≤ length xs → IsPrefixLen n xs
prefix_len_of_le n xs h = (h, sym (length-take-le n xs h))
