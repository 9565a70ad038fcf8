-- What the code's signed numbers stand for. A signed local holds bits: what the machine reads back is the number, where the
-- number fits. So a computation is followed step by step, with a bound on each number's magnitude.
-- Assumes nothing.
use mathlib.Core.Path.{◌≡◌, refl, sym, ap, subst, ◌∙◌}
use mathlib.Core.Bool.{Bool, true, false, cond}
use Prim.Native.Nat.{ℕ, zero, suc, ◌+◌, ◌-◌, ◌*◌, ◌/◌, ◌<◌, ◌≤◌, ◌^◌}
use native.Mathlib.Nat.{le_refl, le_trans, le_of_eq, lt_of_le_of_lt, mul-le-mul, div-le_self, le-div_iff_mul-le, div-mul-le_self, zero-div, mul-div-mul_right}
use native.Mathlib.Omega.{arith}
use borrow.Author.Tests.{ltb-true}
use lib.Dec.{T, ltb}
use lib.IntN.{ℤ, pos, negsuc, neg_ℤ, nat_abs, sub_ℕ, ◌+ℤ◌, ◌-ℤ◌, ◌*ℤ◌}
use lib.Signed.{mag, quot_z}
use mir.Syntax.{w64}
use mir.Val.{SFits, to_z, of_z}
use mir.Facts.{to_z-of_z, to_z_pos}

-- ---- magnitudes

nat_abs-neg : (z : ℤ) → nat_abs (neg_ℤ z) ≡ nat_abs z
nat_abs-neg (pos zero) = refl
nat_abs-neg (pos (suc n)) = refl
nat_abs-neg (negsuc n) = refl

nat_abs-subℕ : (a b : ℕ) → nat_abs (sub_ℕ a b) ≤ a + b
nat_abs-subℕ a b = go (ltb a b) refl
  where
    go : (t : Bool) → ltb a b ≡ t → nat_abs (cond t (negsuc (b - suc a)) (pos (a - b))) ≤ a + b
    go true e = omega (arith, ltb-true a b e)
    go false e = omega arith

pub nat_abs-add : (x y : ℤ) → nat_abs (x +ℤ y) ≤ nat_abs x + nat_abs y
nat_abs-add (pos a) (pos b) = le_refl (a + b)
nat_abs-add (pos a) (negsuc b) = nat_abs-subℕ a (suc b)
nat_abs-add (negsuc a) (pos b) = le_trans (nat_abs-subℕ b (suc a)) (omega arith)
nat_abs-add (negsuc a) (negsuc b) = omega arith

pub nat_abs-sub : (x y : ℤ) → nat_abs (x -ℤ y) ≤ nat_abs x + nat_abs y
nat_abs-sub x y = omega (arith, nat_abs-add x (neg_ℤ y), nat_abs-neg y)

nat_abs_mul : (x y : ℤ) → nat_abs (x *ℤ y) ≡ nat_abs x * nat_abs y
nat_abs_mul (pos a) (pos b) = refl
nat_abs_mul (pos a) (negsuc b) = nat_abs-neg (pos (a * suc b))
nat_abs_mul (negsuc a) (pos b) = nat_abs-neg (pos (suc a * b))
nat_abs_mul (negsuc a) (negsuc b) = refl

nat_abs-quot : (x y : ℤ) → nat_abs (quot_z x y) ≤ nat_abs x
nat_abs-quot (pos a) (pos b) = div-le_self a b
nat_abs-quot (pos a) (negsuc b) = le_trans (le_of_eq (nat_abs-neg (pos (a / suc b)))) (div-le_self a (suc b))
nat_abs-quot (negsuc a) (pos b) = le_trans (le_of_eq (nat_abs-neg (pos (suc a / b)))) (div-le_self (suc a) b)
nat_abs-quot (negsuc a) (negsuc b) = div-le_self (suc a) (suc b)

nat_abs_divided : (x : ℤ) (b : ℕ) → nat_abs (quot_z x (pos b)) ≡ nat_abs x / b
nat_abs_divided (pos a) b = refl
nat_abs_divided (negsuc a) b = nat_abs-neg (pos (suc a / b))

quot-neg : (m b : ℕ) → quot_z (neg_ℤ (pos m)) (pos b) ≡ neg_ℤ (pos (m / b))
quot-neg zero b = rw (zero-div b)
quot-neg (suc m) b = refl

-- a factor of both numbers has no part in their quotient
pub quot_cancel : (z : ℤ) (d n : ℕ) → 0 < n → quot_z (z *ℤ pos n) (pos (d * n)) ≡ quot_z z (pos d)
quot_cancel (pos a) d n h = ap pos (mul-div-mul_right a d h)
quot_cancel (negsuc a) d n h = quot-neg (suc a * n) (d * n) ∙ ap (λ (m : ℕ). neg_ℤ (pos m)) (mul-div-mul_right (suc a) d h)

-- a square is the square of the magnitude
pub square : (z : ℤ) → z *ℤ z ≡ pos (nat_abs z * nat_abs z)
square (pos a) = refl
square (negsuc a) = refl

mag-nat_abs : (z : ℤ) → mag z ≤ nat_abs z
mag-nat_abs (pos n) = le_refl n
mag-nat_abs (negsuc n) = omega arith

-- ---- t, as the machine has it, is z, whose magnitude is at most b

pub record Stands (t z : ℤ) (b : ℕ) : Type 0 where
  pub is : t ≡ z
  pub within : nat_abs z ≤ b

pub exactly : (z : ℤ) {b : ℕ} → nat_abs z ≤ b → Stands z z b
exactly z h = record { is = refl; within = h }

pub literal : (n : ℕ) → Stands (pos n) (pos n) n
literal n = exactly (pos n) (le_refl n)

pub small : {t z : ℤ} {b : ℕ} → Stands t z b → nat_abs t ≤ b
small s = rw s.is s.within

T_true : (b : Bool) → T b → b ≡ true
T_true true h = refl
T_true false h = absurd h

pub fits : {t z : ℤ} {b : ℕ} → Stands t z b → T (ltb b (2 ^ 63)) → SFits w64 t
fits {t} {z} {b} s l =
    subst (SFits w64) (sym s.is) (record { sfits = lt_of_le_of_lt (le_trans (mag-nat_abs z) s.within) (ltb-true b (2 ^ 63) (T_true (ltb b (2 ^ 63)) l)) })

-- what is read back from the bits of a local
abbrev pub read : ℤ → ℤ
read z = to_z w64 (of_z w64 z)

pub back : {t z : ℤ} {b : ℕ} → Stands t z b → T (ltb b (2 ^ 63)) → Stands (read t) z b
back s l = record { is = to_z-of_z (fits s l) ∙ s.is; within = s.within }

-- a u32 cast to i64
pub cast : {n : ℕ} → n < 2 ^ 32 → Stands (to_z w64 n) (pos n) (2 ^ 32)
cast {n} h = record { is = to_z_pos w64 (omega arith); within = omega arith }

-- one whose bound is known
pub cast_to : {n : ℕ} (b : ℕ) → n ≤ b → T (ltb b (2 ^ 32)) → Stands (to_z w64 n) (pos n) b
cast_to {n} b h l = record { is = (cast (lt_of_le_of_lt h (ltb-true b (2 ^ 32) (T_true (ltb b (2 ^ 32)) l)))).is; within = h }

-- divided by a literal
pub divided : {s x : ℤ} {a : ℕ} → Stands s x a → (b : ℕ) → 0 < b → Stands (quot_z s (pos b)) (quot_z x (pos b)) (a / b)
divided {s} {x} {a} p b h =
    record {
      is = ap (λ (z : ℤ). quot_z z (pos b)) p.is;
      within = le_trans (le_of_eq (nat_abs_divided x b)) ((le-div_iff_mul-le {k = b} {x = nat_abs x / b} {y = a} h).1 (le_trans (div-mul-le_self (nat_abs x) b) p.within));
    }

-- a looser bound
pub looser : {t z : ℤ} {a : ℕ} (b : ℕ) → a ≤ b → Stands t z a → Stands t z b
looser b h s = record { is = s.is; within = le_trans s.within h }

module _ {s x t y : ℤ} {a b : ℕ} (p : Stands s x a) (q : Stands t y b) where
  pub add : Stands (s +ℤ t) (x +ℤ y) (a + b)
  add = record { is = cc; within = omega (arith, nat_abs-add x y) }

  pub sub : Stands (s -ℤ t) (x -ℤ y) (a + b)
  sub = record { is = cc; within = omega (arith, nat_abs-sub x y) }

  pub mul : Stands (s *ℤ t) (x *ℤ y) (a * b)
  mul = record { is = cc; within = le_trans (le_of_eq (nat_abs_mul x y)) (mul-le-mul p.within q.within) }

  pub quot : Stands (quot_z s t) (quot_z x y) a
  quot = record { is = cc; within = le_trans (nat_abs-quot x y) p.within }
