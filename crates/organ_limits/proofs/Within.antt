-- The limits of the organs are kept, at every delay, and seven stay seven.
-- Assumes nothing.
use mathlib.Core.Path.{◌≡◌, refl}
use mathlib.Core.Bool.{Bool, true, false, ◌||◌}
use mathlib.Core.List.{List, [], ◌∷◌, map}
use Prim.Native.Nat.{ℕ, zero, suc, ◌≤◌, ◌<◌}
use native.Mathlib.Nat.{le_of_suc-le-suc, not-suc-le-zero}
use native.Mathlib.Omega.{arith}
use borrow.Author.Tests.{ltb-true, eqb-true, le-leb}
use lib.Dec.{ltb, leb, eqb}
use lib.ListN.{length, get_or, replicate}
use Rattle.std.specs.List.{list_all}
use Rattle.std.specs.List as pairs
use Rattle.common.specs.Choice.{choose}
use Rattle.common.specs.Places.{zip, every}
use Rattle.common.proofs.Cases.{chosen}
use Rattle.common.proofs.Joined.{and_left, and_right}
use Rattle.common.proofs.Places.{length-zip}
use Rattle.organ.specs.declared.Organ.{Organ}
use Rattle.organ.specs.declared.OrganInput.{OrganInput}
use Rattle.organ.specs.declared.Organs.{Organs}
use Rattle.organ.specs.Organs.{mark_of, count_of, organ_of, trip_of, all_stepped_of}
use Rattle.organ_limits.specs.Limits.{organ_within, organs_within}
use Rattle.organ.specs.Runs.{cleared}

-- after a tick an organ is within its limits, whatever it was before
held : (n d : ℕ) → count_of true n d ≤ d
unfolding choose
held n d = chosen (λ k. k ≤ d) (ltb n d) _ _ (λ p. omega (arith, ltb-true n d p)) (λ p. omega arith)

within_limits : (m : Bool) (n d : ℕ) → organ_within d (record { marked = m; count = count_of m n d }) ≡ true
unfolding organ_within choose
within_limits true n d = rw (le-leb (count_of true n d) d (held n d))
within_limits false n d = rw (le-leb 0 d (omega arith))

pub step_within : (o : Organ) (x : OrganInput) → organ_within x.delay (organ_of o x) ≡ true
unfolding organ_of
step_within o x = within_limits (mark_of o.marked x) o.count x.delay

-- so is each place of the list
pub all_step_within : (os : List Organ) (xs : List OrganInput) → organs_within (map (λ (x : OrganInput). x.delay) xs) (zip organ_of os xs) ≡ true
unfolding organs_within every zip
all_step_within [] [] = refl
all_step_within [] (x ∷ xs) = refl
all_step_within (o ∷ os) [] = refl
all_step_within (o ∷ os) (x ∷ xs) = rw (step_within o x) (all_step_within os xs)

-- the same, as a caller of `organs_step` has it
pub stepped_within : (r : Organs) (os : List Organ) (xs : List OrganInput) → r ≡ all_stepped_of os xs
    → organs_within (map (λ (x : OrganInput). x.delay) xs) r.organs ≡ true
stepped_within r os xs p = rw p (all_step_within os xs)

-- what is known of the list is known of each place
pub within_at : (ds : List ℕ) (os : List Organ) (i : ℕ) (a : ℕ) (o : Organ) → i < length ds → i < length os → organs_within ds os ≡ true
    → organ_within (get_or ds i a) (get_or os i o) ≡ true
unfolding organs_within every zip
within_at [] os i a o p q r = absurd (not-suc-le-zero p)
within_at (d ∷ ds) [] i a o p q r = absurd (not-suc-le-zero q)
within_at (d ∷ ds) (k ∷ os) zero a o p q r = and_left (organ_within d k) (every (zip organ_within ds os)) r
within_at (d ∷ ds) (k ∷ os) (suc i) a o p q r =
    within_at ds os i a o (le_of_suc-le-suc p) (le_of_suc-le-suc q) (and_right (organ_within d k) (every (zip organ_within ds os)) r)

-- the test of each place, as the library asks it of both lists
pub all_within : (os : List Organ) (ds : List ℕ) → list_all (λ (p : Organ × ℕ). organ_within p.1 p.0) (pairs.zip os ds) ≡ organs_within ds os
unfolding organs_within every zip
all_within [] [] = refl
all_within [] (d ∷ ds) = refl
all_within (o ∷ os) [] = refl
all_within (o ∷ os) (d ∷ ds) = rw (all_within os ds)

-- a cleared organ is within any
pub cleared_within : (d : ℕ) → organ_within d cleared ≡ true
unfolding organ_within
cleared_within d = rw (le-leb 0 d (omega arith))

pub all_cleared_within : (ds : List ℕ) (n : ℕ) → organs_within ds (replicate n cleared) ≡ true
unfolding organs_within every zip
all_cleared_within [] n = refl
all_cleared_within (d ∷ ds) zero = refl
all_cleared_within (d ∷ ds) (suc n) = rw (cleared_within d) (all_cleared_within ds n)

-- an organ within its limits that is not marked has no count
pub no_count : (d : ℕ) (o : Organ) → organ_within d o ≡ true → o.marked ≡ false → o.count ≡ 0
unfolding organ_within
no_count d o p q = eqb-true o.count 0 (rw q at (and_right (leb o.count d) (o.marked || eqb o.count 0) p))

-- seven stay seven
module _ (os : List Organ) (xs : List OrganInput) (seven : length os ≡ 7) (brought : length xs ≡ 7) where
  pub seven_organs : length (all_stepped_of os xs).organs ≡ 7
  seven_organs = length-zip organ_of os xs 7 seven brought

  pub seven_trips : length (all_stepped_of os xs).trips ≡ 7
  seven_trips = length-zip trip_of os xs 7 seven brought
