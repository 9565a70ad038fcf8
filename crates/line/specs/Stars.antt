-- Worked values of U along the line's impedance, by hand, as one list; `proofs/Worked.antt` shows U by its sentence.
use Rattle.std.specs.Prelude.{ℕ, List, [], ◌∷◌, map, ◌≡◌, refl, ℤ, pos, negsuc, Option, Some}
use Rattle.phasor.specs.declared.Vector.{Vector}
use Rattle.line.specs.Along.{scaled_of, drop_re, drop_im, remains_of, magnitude_of}

-- R and X, U_AB's parts, the current's parts; the parts of what remains, and U
pub data Star : Type 0 where
  star : (r x : ℕ) (p q re im : ℤ) (a b : ℤ) (u : ℕ) → Star

abbrev pub stars : List Star
stars =
    -- R only: 4 Ω × 1 A × √3 = 6.928204 V
    star 4000 0 (pos 100000) (pos 0) (pos 1000) (pos 0) (pos 93072) (pos 0) 93072
    -- X only: the drop is across
    ∷ star 0 3000 (pos 100000) (pos 0) (pos 1000) (pos 0) (pos 100000) (negsuc 5195) 100134
    -- both, and a current that lags: −X × I_im adds to the drop
    ∷ star 4000 3000 (pos 100000) (pos 0) (pos 1000) (negsuc 499) (pos 90474) (negsuc 1731) 90490
    -- one that leads takes from it
    ∷ star 4000 3000 (pos 100000) (pos 0) (pos 1000) (pos 500) (pos 95670) (negsuc 8659) 96061
    -- current zero
    ∷ star 4000 3000 (pos 60000) (pos 80000) (pos 0) (pos 0) (pos 60000) (pos 80000) 100000
    -- R and X zero
    ∷ star 0 0 (pos 60000) (negsuc 79999) (pos 40000) (negsuc 39999) (pos 60000) (negsuc 79999) 100000
    -- a drop larger than U_AB, and the largest that a sheet and readings give
    ∷ star 400000 0 (pos 100000) (pos 0) (pos 40000) (pos 0) (negsuc 27612815) (pos 0) 27612816
    ∷ star 400000 400000 (negsuc 199999) (pos 200000) (pos 80000) (negsuc 79999) (negsuc 111051263) (pos 200000) 111051444
    -- what remains has the root 3 exactly; one less; one more
    ∷ star 0 0 (negsuc 2) (pos 0) (pos 0) (pos 0) (negsuc 2) (pos 0) 3
    ∷ star 0 0 (pos 2) (pos 2) (pos 0) (pos 0) (pos 2) (pos 2) 2
    ∷ star 0 0 (pos 3) (pos 1) (pos 0) (pos 0) (pos 3) (pos 1) 3
    -- toward zero, whatever the sign: 0.99939, 1.00113 and −1.00113 mV
    ∷ star 1 0 (pos 0) (pos 0) (pos 577) (pos 0) (pos 0) (pos 0) 0
    ∷ star 1 0 (pos 0) (pos 0) (pos 578) (pos 0) (negsuc 0) (pos 0) 1
    ∷ star 1 0 (pos 0) (pos 0) (negsuc 577) (pos 0) (pos 1) (pos 0) 1
    -- divided once: each product by itself would give 0
    ∷ star 1 1 (pos 0) (pos 0) (pos 289) (negsuc 288) (negsuc 0) (pos 0) 1
    ∷ []

abbrev pub pair : ℤ → ℤ → Option Vector
pair re im = Some (record { re = re; im = im })

abbrev pub remaining : Star → Option Vector
remaining (star r x p q re im a b u) = remains_of r x (pair p q) (pair re im)

abbrev pub expected_remains : Star → Option Vector
expected_remains (star r x p q re im a b u) = pair a b

pub stars_remain : map remaining stars ≡ map expected_remains stars
unfolding scaled_of drop_re drop_im remains_of
stars_remain = refl

abbrev pub found : Star → Option ℤ
found s = magnitude_of (remaining s)

abbrev pub expected : Star → Option ℤ
expected (star r x p q re im a b u) = Some (pos u)
