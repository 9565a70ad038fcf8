-- The exact value of a float. A finite one is the fraction num / den (`lib.Ieee.Positive`): m * 2 ^ e is m * up e / down e. Definitions only.
use Rattle.std.specs.Prelude.{ℕ, ◌+◌, ◌-◌, ◌*◌, ◌/◌, Bool, true, false, ◌&&◌, leb, eqb}
use lib.Ieee.{Float, nan, inf, fin}
use Rattle.std.specs.Float.Ieee.Positive.{num, den}

-- finite, and not below 0: of the numbers with a minus sign only -0.0, which is 0
abbrev pub counts : Float → Bool
counts nan = false
counts (inf s) = false
counts (fin true m e) = eqb (num (fin true m e)) 0
counts (fin false m e) = true

-- finite, not below 0 and not above the limit
abbrev pub in_range : ℕ → Float → Bool
in_range limit x = counts x && leb (num x) (limit * den x)

-- the whole number nearest to the fraction n / d, a half going up: the largest one not above n / d + 1 / 2
abbrev pub nearest : ℕ → ℕ → ℕ
nearest n d = (2 * n + d) / (2 * d)

-- how far the fraction n / d is from the whole number m, d times: `nearest` is the m for which it is smallest (`proofs/Facts.antt`)
abbrev pub distance : ℕ → ℕ → ℕ → ℕ
distance n d m = m * d - n + (n - m * d)

-- "A reading shall count as the nearest whole mV or mA, a half going up" (02, ticket 1): the whole number nearest to 1000 * x
abbrev pub thousandths : Float → ℕ
thousandths x = nearest (1000 * num x) (den x)
