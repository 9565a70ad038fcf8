-- What a tick adds, field by field.
-- Assumes nothing.
use Prim.Native.Nat.{ℕ, ◌+◌, ◌*◌, ◌≤◌, ◌<◌}
use native.Mathlib.Numerals.{add-one}
use native.Mathlib.Omega.{arith}
use mathlib.Core.Path.{◌≡◌, refl, sym, ap}
use mathlib.Core.Bool.{true, false}
use mathlib.Core.List.{List, [], ◌∷◌, ◌++◌}
use lib.Dec.{eqb}
use lib.ListN.{length, get_or, drop, length-append, drop_of_length-le}
use lib.Seq.{drop-cons}
use borrow.Author.Tests.{eq-eqb, ne_eqb}
use Rattle.common.proofs.Cases.{yes, no, chosen}
use Rattle.journal_changes.specs.Changes.{change_of, changes_from}

module _ (stamp f b n : ℕ) where
  pub no_change : eqb n b ≡ true → change_of stamp f b n ≡ []
  unfolding change_of
  no_change t = sym (yes _ _ _ _ t refl)

  pub a_change : eqb n b ≡ false → change_of stamp f b n ≡ stamp ∷ f ∷ n ∷ []
  unfolding change_of
  a_change t = sym (no _ _ _ _ t refl)

  module _ (bs ns : List ℕ) where
    pub same_on : eqb n b ≡ true → changes_from stamp f (b ∷ bs) (n ∷ ns) ≡ changes_from stamp (f + 1) bs ns
    unfolding changes_from
    same_on t = ap (λ (l : List ℕ). l ++ changes_from stamp (f + 1) bs ns) (no_change t)

    pub other_on : eqb n b ≡ false → changes_from stamp f (b ∷ bs) (n ∷ ns) ≡ stamp ∷ f ∷ n ∷ changes_from stamp (f + 1) bs ns
    unfolding changes_from
    other_on t = ap (λ (l : List ℕ). l ++ changes_from stamp (f + 1) bs ns) (a_change t)

  -- the change of one field, by its two outputs
  pub unmoved : n ≡ b → [] ≡ change_of stamp f b n
  unmoved e = sym (no_change (eq-eqb n b e))

  pub moved : (n ≡ b → ⊥) → (stamp ∷ f ∷ n ∷ []) ≡ change_of stamp f b n
  moved e = sym (a_change (ne_eqb n b e))

-- how many numbers does not depend on stamp and field
pub one_length : (s t f g b n : ℕ) → length (change_of s f b n) ≡ length (change_of t g b n)
unfolding change_of
one_length s t f g b n = chosen (λ (l : List ℕ). length l ≡ length (change_of t g b n)) (eqb n b) [] (s ∷ f ∷ n ∷ [])
    (λ e. ap length (sym (no_change t g b n e)))
    (λ e. ap length (sym (a_change t g b n e)))

pub all_length : (s t f g : ℕ) (bs ns : List ℕ) → length (changes_from s f bs ns) ≡ length (changes_from t g bs ns)
unfolding changes_from
all_length s t f g [] ns = refl
all_length s t f g (b ∷ bs) [] = refl
all_length s t f g (b ∷ bs) (n ∷ ns) =
    omega (arith, length-append (change_of s f b n) (changes_from s (f + 1) bs ns), length-append (change_of t g b n) (changes_from t (g + 1) bs ns), one_length s t f g b n, all_length s t (f + 1) (g + 1) bs ns)

-- at most three numbers a field
pub one_most : (stamp f b n : ℕ) → length (change_of stamp f b n) ≤ 3
unfolding change_of
one_most stamp f b n = chosen (λ (l : List ℕ). length l ≤ 3) (eqb n b) [] (stamp ∷ f ∷ n ∷ []) (λ e. omega arith) (λ e. omega arith)

pub all_most : (stamp f : ℕ) (bs ns : List ℕ) → length (changes_from stamp f bs ns) ≤ 3 * length bs
unfolding changes_from
all_most stamp f [] ns = omega arith
all_most stamp f (b ∷ bs) [] = omega arith
all_most stamp f (b ∷ bs) (n ∷ ns) =
    omega (arith, length-append (change_of stamp f b n) (changes_from stamp (f + 1) bs ns), one_most stamp f b n, all_most stamp (f + 1) bs ns)

-- what is left from the ith field on
module _ (stamp i : ℕ) (bs ns : List ℕ) where
  pub here_changes : i < length bs → i < length ns
      → changes_from stamp i (drop i bs) (drop i ns) ≡ change_of stamp i (get_or bs i 0) (get_or ns i 0) ++ changes_from stamp (i + 1) (drop (i + 1) bs) (drop (i + 1) ns)
  unfolding changes_from
  here_changes h l = rw (drop-cons bs i 0 h, drop-cons ns i 0 l, add-one)

  pub no_more : length bs ≤ i → changes_from stamp i (drop i bs) (drop i ns) ≡ []
  unfolding changes_from
  no_more h = rw (drop_of_length-le bs h)
