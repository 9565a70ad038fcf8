-- A loop that sets one place after the other to a function of the place ends with the function's values.
-- Assumes nothing.
use mathlib.Core.Path.{◌≡◌, refl, sym}
use mathlib.Core.List.{List, ◌++◌, append-nil}
use Prim.Native.Nat.{ℕ, zero, suc, ◌+◌, ◌<◌}
use native.Mathlib.Numerals.{add-one}
use native.Mathlib.Omega.{arith}
use lib.ListN.{length, get_or, set, drop, length-append}
use lib.Seq.{drop-cons, set_at, append_snoc, drop-length}
use Rattle.common.specs.Places.{tab}

-- the first n places set
unfoldable pub filled : {A : Type 0} → (ℕ → A) → ℕ → List A → List A
filled f n xs = tab f n ++ drop n xs

module _ {A : Type 0} (f : ℕ → A) where
  pub length-tab : (n : ℕ) → length (tab f n) ≡ n
  unfolding tab
  length-tab zero = refl
  length-tab (suc n) = simp (length-append, length-tab n) (omega arith)

  pub none_filled : (xs : List A) → xs ≡ filled f 0 xs
  unfolding filled tab
  none_filled xs = refl

  pub fill_more : (xs : List A) (i : ℕ) → i < length xs → set (filled f i xs) i (f i) ≡ filled f (i + 1) xs
  unfolding filled tab
  fill_more xs i h =
      rw (add-one, drop-cons xs i (f i) h, set_at (tab f i) (get_or xs i (f i)) (drop (suc i) xs) (f i) i (length-tab i)) (sym (append_snoc (tab f i) (f i) (drop (suc i) xs)))

  pub all_filled : (xs : List A) (n : ℕ) → length xs ≡ n → filled f n xs ≡ tab f n
  unfolding filled
  all_filled xs n h = rw (← h, drop-length) (append-nil (tab f (length xs)))
