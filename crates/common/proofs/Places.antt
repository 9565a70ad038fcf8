-- Laws of a list that is made place by place, and of the loop that asks a question of every place.
-- Assumes nothing.
use mathlib.Core.Path.{◌≡◌, refl, ap}
use mathlib.Core.Bool.{Bool, true, false, ◌&&◌}
use mathlib.Core.List.{List, [], ◌∷◌}
use Prim.Native.Nat.{ℕ, zero, suc, ◌+◌, ◌<◌, ◌≤◌}
use native.Mathlib.Nat.{le_of_suc-le-suc, not-suc-le-zero}
use native.Mathlib.Numerals.{add-one}
use native.Mathlib.Omega.{arith}
use lib.ListN.{length, get_or, drop, drop_of_length-le}
use Rattle.common.specs.Places.{zip, every}

module _ {A B C : Type 0} (f : A → B → C) where
  -- two lists of one length give a list of that length
  pub length-zip : (xs : List A) (ys : List B) (n : ℕ) → length xs ≡ n → length ys ≡ n → length (zip f xs ys) ≡ n
  unfolding zip
  length-zip [] ys n p q = p
  length-zip (x ∷ xs) [] n p q = absurd (omega arith)
  length-zip (x ∷ xs) (y ∷ ys) zero p q = absurd (omega arith)
  length-zip (x ∷ xs) (y ∷ ys) (suc n) p q = ap suc (length-zip xs ys n (omega arith) (omega arith))

  -- a place of it is the function at that place of the two
  pub zip_at : (xs : List A) (ys : List B) (i : ℕ) (a : A) (b : B) (c : C) → i < length xs → i < length ys
      → get_or (zip f xs ys) i c ≡ f (get_or xs i a) (get_or ys i b)
  unfolding zip
  zip_at [] ys i a b c p q = absurd (not-suc-le-zero p)
  zip_at (x ∷ xs) [] i a b c p q = absurd (not-suc-le-zero q)
  zip_at (x ∷ xs) (y ∷ ys) zero a b c p q = refl
  zip_at (x ∷ xs) (y ∷ ys) (suc i) a b c p q = zip_at xs ys i a b c (le_of_suc-le-suc p) (le_of_suc-le-suc q)

-- every place from place i on answers yes
unfoldable pub rest : {A B : Type 0} → (A → B → Bool) → ℕ → List A → List B → Bool
rest f i xs ys = every (drop i (zip f xs ys))

rest_more : {A B : Type 0} (f : A → B → Bool) (i : ℕ) (xs : List A) (ys : List B) (d : A) (e : B) → i < length xs → i < length ys
    → rest f i xs ys ≡ (f (get_or xs i d) (get_or ys i e) && rest f (suc i) xs ys)
unfolding rest every zip
rest_more f i [] ys d e p q = absurd (not-suc-le-zero p)
rest_more f i (x ∷ xs) [] d e p q = absurd (not-suc-le-zero q)
rest_more f zero (x ∷ xs) (y ∷ ys) d e p q = refl
rest_more f (suc i) (x ∷ xs) (y ∷ ys) d e p q = rest_more f i xs ys d e (le_of_suc-le-suc p) (le_of_suc-le-suc q)

-- a loop that stops at the first no: w, the answer of all, is that of the places left
module _ {A B : Type 0} (f : A → B → Bool) (xs : List A) (ys : List B) (w : Bool) where
  pub rest_on : (b : Bool) (i : ℕ) (d : A) (e : B) → rest f i xs ys ≡ w → b ≡ f (get_or xs i d) (get_or ys i e) → b ≡ true
      → i < length xs → i < length ys → rest f (i + 1) xs ys ≡ w
  rest_on b i d e p q t h k = rw (rest_more f i xs ys d e h k, ← q, t, ← add-one) at p

  pub rest_no : (b : Bool) (i : ℕ) (d : A) (e : B) → rest f i xs ys ≡ w → b ≡ f (get_or xs i d) (get_or ys i e) → b ≡ false
      → i < length xs → i < length ys → false ≡ w
  rest_no b i d e p q t h k = rw (rest_more f i xs ys d e h k, ← q, t) at p

  pub rest_none : (i n : ℕ) → rest f i xs ys ≡ w → n ≤ i → length xs ≡ n → length ys ≡ n → true ≡ w
  unfolding rest every
  rest_none i n p h k l =
      let short : length (zip f xs ys) ≤ i = omega (arith, length-zip f xs ys n k l) in
      rw (drop_of_length-le (zip f xs ys) short) at p
