-- Lists that are made, or asked, place by place.
use Rattle.std.specs.Prelude.{ℕ, zero, suc, Bool, true, ◌&&◌, List, [], ◌∷◌, ◌++◌}

-- the function at each place of two lists
unfoldable pub zip : {A B C : Type 0} → (A → B → C) → List A → List B → List C
zip f [] ys = []
zip f (x ∷ xs) [] = []
zip f (x ∷ xs) (y ∷ ys) = f x y ∷ zip f xs ys

-- the function's values at the first n numbers
unfoldable pub tab : {A : Type 0} → (ℕ → A) → ℕ → List A
tab f zero = []
tab f (suc n) = tab f n ++ (f n ∷ [])

-- every answer of the list is yes
unfoldable pub every : List Bool → Bool
every [] = true
every (b ∷ bs) = b && every bs
