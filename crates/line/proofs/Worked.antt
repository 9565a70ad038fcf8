-- The worked values: U is the largest whole number whose square is not above. The definition scans for it, which no computer would do with
-- such numbers; so each is shown by the squares of U and of U + 1.
-- Assumes nothing.
use mathlib.Core.Path.{◌≡◌, refl, sym, ap, ◌∙◌}
use mathlib.Core.Bool.{Bool, true, ◌&&◌}
use mathlib.Core.List.{List, [], ◌∷◌, map}
use Prim.Native.Nat.{ℕ, ◌+◌, ◌*◌}
use lib.Dec.{leb, ltb}
use borrow.Author.Tests.{leb-true, ltb-true}
use Rattle.common.proofs.Joined.{and_left, and_right}
use Rattle.phasor.specs.declared.Vector.{Vector}
use Rattle.root.proofs.Laws.{root_from, root_by}
use Rattle.std.specs.Prelude.{Option, Some}
use lib.IntN.{ℤ, pos}
use Rattle.line.specs.Along.{squares_of, magnitude_of}
use Rattle.line.specs.Stars.{Star, star, stars, remaining, expected_remains, stars_remain, found, expected}

-- U's square is not above the sum of the squares, and that of U + 1 is
abbrev fitting : Star → Bool
fitting (star r x p q re im a b u) = leb (u * u) (squares_of a b) && ltb (squares_of a b) ((u + 1) * (u + 1))

abbrev all_fit_lem : List Star → Bool
all_fit_lem [] = true
all_fit_lem (s ∷ ss) = fitting s && all_fit_lem ss

fits : (s : Star) → fitting s ≡ true → magnitude_of (expected_remains s) ≡ expected s
unfolding magnitude_of
fits (star r x p q re im a b u) e =
    ap (λ (n : ℕ). Some (pos n))
    (sym (root_by (squares_of a b) (root_from (squares_of a b) u (leb-true _ _ (and_left _ _ e)) (ltb-true _ _ (and_right (leb (u * u) (squares_of a b)) _ e)))))

all_fit : (ss : List Star) → all_fit_lem ss ≡ true → map (λ (s : Star). magnitude_of (expected_remains s)) ss ≡ map expected ss
all_fit [] e = refl
all_fit (s ∷ ss) e = let h = fits s (and_left _ _ e) in let t = all_fit ss (and_right (fitting s) _ e) in cc

map-map : (f : Star → Option Vector) (ss : List Star) → map magnitude_of (map f ss) ≡ map (λ (s : Star). magnitude_of (f s)) ss
map-map f [] = refl
map-map f (s ∷ ss) = ap (λ (l : List (Option ℤ)). magnitude_of (f s) ∷ l) (map-map f ss)

pub stars_are : map found stars ≡ map expected stars
unfolding squares_of
stars_are = sym (map-map remaining stars) ∙ ap (map magnitude_of) stars_remain ∙ map-map expected_remains stars ∙ all_fit stars refl
