-- A loop that replaces one place after the other ends with the function at each place.
-- Assumes nothing.
use mathlib.Core.Path.{◌≡◌, refl, ap, ◌∙◌}
use mathlib.Core.List.{List, [], ◌∷◌}
use Prim.Native.Nat.{ℕ, zero, suc, ◌+◌, ◌<◌, ◌≤◌}
use native.Mathlib.Nat.{le_of_suc-le-suc, not-suc-le-zero}
use native.Mathlib.Numerals.{add-one}
use native.Mathlib.Omega.{arith}
use lib.ListN.{length, get_or, set}
use Rattle.common.specs.Places.{zip}

-- the first n places of the list `rs` replaced by the function at those of xs and ys
unfoldable pub done : {A B C : Type 0} → (A → B → C) → ℕ → List C → List A → List B → List C
done f zero rs xs ys = rs
done f (suc n) [] xs ys = []
done f (suc n) (r ∷ rs) [] ys = r ∷ rs
done f (suc n) (r ∷ rs) (x ∷ xs) [] = r ∷ rs
done f (suc n) (r ∷ rs) (x ∷ xs) (y ∷ ys) = f x y ∷ done f n rs xs ys

module _ {A B C : Type 0} (f : A → B → C) where
  pub more : (rs : List C) (xs : List A) (ys : List B) (i : ℕ) (d : A) (e : B) → i < length rs → i < length xs → i < length ys
      → set (done f i rs xs ys) i (f (get_or xs i d) (get_or ys i e)) ≡ done f (suc i) rs xs ys
  unfolding done
  more [] xs ys i d e p q r = absurd (not-suc-le-zero p)
  more (z ∷ rs) [] ys i d e p q r = absurd (not-suc-le-zero q)
  more (z ∷ rs) (x ∷ xs) [] i d e p q r = absurd (not-suc-le-zero r)
  more (z ∷ rs) (x ∷ xs) (y ∷ ys) zero d e p q r = refl
  more (z ∷ rs) (x ∷ xs) (y ∷ ys) (suc i) d e p q r =
      ap (λ (l : List C). f x y ∷ l) (more rs xs ys i d e (le_of_suc-le-suc p) (le_of_suc-le-suc q) (le_of_suc-le-suc r))

  -- all places are replaced
  pub all : (n : ℕ) (rs : List C) (xs : List A) (ys : List B) → length rs ≡ n → length xs ≡ n → length ys ≡ n → done f n rs xs ys ≡ zip f xs ys
  unfolding done zip
  all zero [] [] ys p q r = refl
  all zero [] (x ∷ xs) ys p q r = absurd (omega arith)
  all zero (z ∷ rs) xs ys p q r = absurd (omega arith)
  all (suc n) [] xs ys p q r = absurd (omega arith)
  all (suc n) (z ∷ rs) [] ys p q r = absurd (omega arith)
  all (suc n) (z ∷ rs) (x ∷ xs) [] p q r = absurd (omega arith)
  all (suc n) (z ∷ rs) (x ∷ xs) (y ∷ ys) p q r =
      ap (λ (l : List C). f x y ∷ l) (all n rs xs ys (omega arith) (omega arith) (omega arith))

-- the places of a list, each taken as it is, are the list
pub first_of : {A : Type 0} (xs : List A) → zip (λ (x y : A). x) xs xs ≡ xs
unfolding zip
first_of [] = refl
first_of (x ∷ xs) = ap (λ (l : List _). x ∷ l) (first_of xs)

-- the same, as a loop's turn and its end ask it: `search (needs, done_on)`, `search (needs, done_all)`
module _ {A B C : Type 0} (f : A → B → C) (rs : List C) (xs : List A) (ys : List B) where
  pub done_on : (cs : List C) (c : C) (i : ℕ) (d : A) (e : B) → cs ≡ done f i rs xs ys → c ≡ f (get_or xs i d) (get_or ys i e)
      → i < length rs → i < length xs → i < length ys → set cs i c ≡ done f (i + 1) rs xs ys
  done_on cs c i d e p q h k l = rw (p, q, add-one) (more f rs xs ys i d e h k l)

  pub done_all : (cs : List C) (i n : ℕ) → cs ≡ done f i rs xs ys → i ≤ n → n ≤ i → length rs ≡ n → length xs ≡ n → length ys ≡ n → cs ≡ zip f xs ys
  done_all cs i n p h k a b c =
      let e : i ≡ n = omega arith in
      p ∙ rw e (all f n rs xs ys a b c)
