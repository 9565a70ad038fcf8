-- "The largest whole number whose square is not above" a number (02, ticket 3). Definitions only.
use Rattle.std.specs.Prelude.{ℕ, zero, suc, ◌+◌, ◌*◌, ◌≤◌, Bool, leb}
use Rattle.common.specs.Choice.{choose}

-- the largest of the numbers up to b that passes a test, 0 where none does
unfoldable pub largest_up_to : (ℕ → Bool) → ℕ → ℕ
largest_up_to f zero = 0
largest_up_to f (suc b) = choose (f (suc b)) (suc b) (largest_up_to f b)

-- whether the square of m is not above n
abbrev pub square_within : ℕ → ℕ → Bool
square_within n m = leb (m * m) n

-- no number above n has such a square
unfoldable pub root_of : ℕ → ℕ
root_of n = largest_up_to (square_within n) n

-- the sentence itself
pub record Root (n r : ℕ) : Type 0 where
  pub square : r * r ≤ n
  pub largest : (m : ℕ) → m * m ≤ n → m ≤ r

-- what the code's own functions say to each other: a step is taken if the square does not pass n
unfoldable pub with_step : ℕ → ℕ → ℕ → ℕ
with_step n r step = choose (square_within n (r + step)) (r + step) r
