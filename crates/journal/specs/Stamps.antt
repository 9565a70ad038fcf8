-- Stamps (02, ticket 9). Definitions only.
use Rattle.std.specs.Prelude.{ℕ, ◌+◌, ◌-◌, ◌%◌, Bool, ◌&&◌, leb}

-- "the stamp runs through 4,294,967,295 back to 0"
unfoldable pub stamp_after : ℕ → ℕ → ℕ
stamp_after a k = (a + k) % 4294967296

-- "b − a, so wrapped"
unfoldable pub ticks_between : ℕ → ℕ → ℕ
ticks_between a b = (b + (4294967296 - a)) % 4294967296

-- "b is later than a if b − a, so wrapped, is 1 to 2,147,483,647"
unfoldable pub is_later : ℕ → ℕ → Bool
is_later a b = leb 1 (ticks_between a b) && leb (ticks_between a b) 2147483647
