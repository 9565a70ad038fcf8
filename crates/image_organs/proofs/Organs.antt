-- The organs in numbers and back, and the loops over them.
-- Assumes nothing.
use mathlib.Core.Path.{◌≡◌, refl}
use mathlib.Core.Bool.{Bool, true, false}
use mathlib.Core.List.{List, [], ◌∷◌, map}
use Prim.Native.Nat.{ℕ, ◌+◌, ◌<◌}
use native.Mathlib.Omega.{arith}
use lib.ListN.{length, get_or, set}
use mir.Val.{bool_byte}
use Rattle.common.specs.Places.{zip, every}
use Rattle.organ.specs.declared.Organ.{Organ}
use Rattle.common.proofs.Done.{done, done_on}
use Rattle.std.specs.List.{list_all}
use Rattle.common.proofs.Joined.{and_left, and_right}
use Rattle.image_organs.specs.declared.OrganNumbers.{OrganNumbers}
use Rattle.coding_flag.specs.Numbers.{bit_of, is_bit}
use Rattle.image_organs.specs.Places.{mark_of, count_of, organ_numbers, organ_of, organs_of, are_marks}
use Rattle.coding_flag.proofs.Cases.{bit_back, bit_is, bit_same}

-- ---- there and back

organ_back : (o : Organ) → organ_of (mark_of o) (count_of o) ≡ o
unfolding organ_of mark_of count_of
organ_back o = rw bit_back

pub organs_back : (os : List Organ) → organs_of (organ_numbers os).marks (organ_numbers os).counts ≡ os
unfolding organs_of organ_numbers zip
organs_back [] = refl
organs_back (o ∷ os) = rw (organ_back o, organs_back os)

pub organs_are : (os : List Organ) → are_marks (organ_numbers os).marks ≡ true
unfolding are_marks organ_numbers every mark_of
organs_are [] = refl
organs_are (o ∷ os) = rw (bit_is o.marked) (organs_are os)

pub marks_same : (ms cs : List ℕ) → are_marks ms ≡ true → length ms ≡ length cs → (organ_numbers (organs_of ms cs)).marks ≡ ms
unfolding are_marks organ_numbers organs_of every mark_of organ_of zip
marks_same [] cs p h = refl
marks_same (m ∷ ms) [] p h = absurd (omega arith)
marks_same (m ∷ ms) (c ∷ cs) p h = rw (bit_same m (and_left (is_bit m) _ p), marks_same ms cs (and_right (is_bit m) _ p) (omega arith))

pub counts_same : (ms cs : List ℕ) → length ms ≡ length cs → (organ_numbers (organs_of ms cs)).counts ≡ cs
unfolding organ_numbers organs_of count_of organ_of zip
counts_same [] [] h = refl
counts_same [] (c ∷ cs) h = absurd (omega arith)
counts_same (m ∷ ms) [] h = absurd (omega arith)
counts_same (m ∷ ms) (c ∷ cs) h = rw (counts_same ms cs (omega arith))

-- ---- the loops

-- the functions of a place, as the laws of the loops take them: of the same list twice
unfoldable pub mark_at : Organ → Organ → ℕ
mark_at o p = mark_of o

unfoldable pub count_at : Organ → Organ → ℕ
count_at o p = count_of o

pub marks_all : (os : List Organ) → zip mark_at os os ≡ map mark_of os
unfolding zip mark_at
marks_all [] = refl
marks_all (o ∷ os) = rw (marks_all os)

pub counts_all : (os : List Organ) → zip count_at os os ≡ map count_of os
unfolding zip count_at
counts_all [] = refl
counts_all (o ∷ os) = rw (counts_all os)

pub numbers_made : (os : List Organ) (ms cs : List ℕ) → ms ≡ zip mark_at os os → cs ≡ zip count_at os os
    → ◌≡◌ {A = OrganNumbers} (record { marks = ms; counts = cs }) (organ_numbers os)
unfolding organ_numbers
numbers_made os ms cs p q = rw (p, q, marks_all, counts_all)

-- what a turn writes
flag_made : (b : Bool) → bool_byte b ≡ bit_of b
flag_made true = refl
flag_made false = refl

module _ (rs : List ℕ) (os : List Organ) (cs : List ℕ) (i : ℕ) (d : Organ) (h : i < length rs) (k : i < length os) where
  pub mark_made : cs ≡ done mark_at i rs os os → set cs i (bool_byte (get_or os i d).marked) ≡ done mark_at (i + 1) rs os os
  unfolding mark_at mark_of
  mark_made p = done_on mark_at rs os os cs _ i d d p (flag_made (get_or os i d).marked) h k k

  pub count_made : cs ≡ done count_at i rs os os → set cs i (get_or os i d).count ≡ done count_at (i + 1) rs os os
  unfolding count_at count_of
  count_made p = done_on count_at rs os os cs _ i d d p refl h k k

-- the test of each place, as the library asks it
pub all_bits : (ms : List ℕ) → list_all is_bit ms ≡ are_marks ms
unfolding are_marks every
all_bits [] = refl
all_bits (m ∷ ms) = rw (all_bits ms)
