-- Runs over lists, of any step: a run that is cut in two, and two runs that are alike step by step.
-- Assumes nothing.
use Prim.Native.Nat.{suc}
use mathlib.Core.Path.{◌≡◌, refl, sym, ap, ◌∙◌}
use mathlib.Core.List.{List, [], ◌∷◌, ◌++◌, map, tail-eq_of_cons-eq, head-eq_of_cons-eq, cons≢nil}
use lib.ListN.{length}
use Rattle.claim.specs.Runs.{run_of, after_of}

module _ {S I T : Type 0} (next : S → I → S) (seen : S → I → T) where
  -- the front is a run, and so is the back, from where the front leaves off
  pub record Cut (s : S) (a b : List T) : Type 0 where
    pub front : List I
    pub back : List I
    pub is_front : a ≡ run_of next seen s front
    pub is_back : b ≡ run_of next seen (after_of next s front) back

  pub cut : (s : S) (is : List I) (a b : List T) → run_of next seen s is ≡ a ++ b → Cut s a b
  cut s is [] b e = record { front = []; back = is; is_front = refl; is_back = sym e }
  cut s [] (t ∷ a) b e = absurd (cons≢nil (sym e))
  cut s (i ∷ is) (t ∷ a) b e =
      let c = cut (next s i) is a b (tail-eq_of_cons-eq e) in
      record {
        front = i ∷ c.front;
        back = c.back;
        is_front = λ j. head-eq_of_cons-eq (sym e) j ∷ c.is_front j;
        is_back = c.is_back;
      }

  pub uncons : (s : S) (is : List I) (t : T) (ts : List T) → t ∷ ts ≡ run_of next seen s is
      → (i : I) × (later : List I) × (t ≡ seen s i) × (ts ≡ run_of next seen (next s i) later)
  uncons s [] t ts e = absurd (cons≢nil e)
  uncons s (i ∷ is) t ts e = (i, is, head-eq_of_cons-eq e, tail-eq_of_cons-eq e)

  pub length_run : (s : S) (is : List I) → length (run_of next seen s is) ≡ length is
  length_run s [] = refl
  length_run s (i ∷ is) = ap suc (length_run (next s i) is)

-- a run of another step on other inputs, that shows the same where its states are those of the first in another form
module _ {S S' I I' T : Type 0} (next : S → I → S) (seen : S → I → T) (next' : S' → I' → S') (seen' : S' → I' → T) (form : S → S') (g : I' → I)
    (steps : (s : S) (i : I') → next' (form s) i ≡ form (next s (g i))) (shows : (s : S) (i : I') → seen' (form s) i ≡ seen s (g i)) where
  pub same_run : (s : S) (is : List I') → run_of next' seen' (form s) is ≡ run_of next seen s (map g is)
  same_run s [] = refl
  same_run s (i ∷ is) =
      (λ j. shows s i j ∷ run_of next' seen' (steps s i j) is) ∙ ap (λ (l : List T). seen s (g i) ∷ l) (same_run (next s (g i)) is)
