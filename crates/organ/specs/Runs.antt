-- An organ over a list of ticks.
use Rattle.std.specs.Prelude.{ℕ, ◌+◌, ◌≡◌, true, false, List, [], ◌∷◌, Some}
use Rattle.common.specs.Choice.{choose}
use Rattle.organ.specs.declared.Organ.{Organ}
use Rattle.organ.specs.declared.OrganInput.{OrganInput}
use Rattle.organ.specs.declared.Side.TheVariants.{Over}
use Rattle.organ.specs.Organs.{mark_of, organ_of}

-- no mark, no count: an organ of the fresh record
abbrev pub cleared : Organ
cleared = record { marked = false; count = 0 }

-- a tick of a live over organ: its limit, a value and its delay
abbrev pub over_tick : ℕ → ℕ → ℕ → OrganInput
over_tick limit value delay = record { side = Over; value = Some value; limit = limit; delay = delay }

-- the organ after the ticks
unfoldable pub run_of : Organ → List OrganInput → Organ
run_of o [] = o
run_of o (x ∷ xs) = run_of (organ_of o x) xs

-- the marked ticks directly before the end of the list, where n of them stand directly before the list
unfoldable pub row_from : ℕ → Organ → List OrganInput → ℕ
row_from n o [] = n
row_from n o (x ∷ xs) = row_from (choose (mark_of o.marked x) (n + 1) 0) (organ_of o x) xs

-- each tick has the delay d
pub data Delayed (d : ℕ) : List OrganInput → Type 0 where
  none : Delayed d []
  more : {x : OrganInput} {xs : List OrganInput} → x.delay ≡ d → Delayed d xs → Delayed d (x ∷ xs)

-- each tick is marked, from the organ o on
pub data Marked : Organ → List OrganInput → Type 0 where
  none : {o : Organ} → Marked o []
  more : {o : Organ} {x : OrganInput} {xs : List OrganInput} → mark_of o.marked x ≡ true → Marked (organ_of o x) xs → Marked o (x ∷ xs)
