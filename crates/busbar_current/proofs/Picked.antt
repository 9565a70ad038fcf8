-- Slot 4's choice, of numbers or of pairs; and a sum or a difference, which it joins two currents by, as one.
-- Assumes nothing.
use mathlib.Core.Path.{◌≡◌, refl, sym, ◌∙◌}
use mathlib.Core.List.{List}
use Prim.Native.Nat.{ℕ, ◌+◌, ◌≤◌}
use native.Mathlib.Omega.{arith}
use borrow.Author.Tests.{eq-eqb}
use lib.Dec.{eqb}
use mir.Syntax.{w64}
use Rattle.std.proofs.lemmas.Int.{int_wrap_fits, fits_signed_from_abs}
use lib.IntN.{ℤ, nat_abs, ◌+ℤ◌, ◌-ℤ◌}
use Rattle.common.specs.Choice.{choose}
use Rattle.common.proofs.Cases.{yes, chosen}
use Rattle.common.proofs.Signed.{nat_abs-add, nat_abs-sub, Stands}
use Rattle.slots.specs.Slots.{slot, compensation_current}
use Rattle.busbar_current.specs.Current.{most_reading, wrapped, picked_of}

-- what a sum and a difference have in common: they are no larger than the two together
abbrev pub Joins : (ℤ → ℤ → ℤ) → Type 0
Joins f = (x y : ℤ) → nat_abs (f x y) ≤ nat_abs x + nat_abs y

pub joined : (f : ℤ → ℤ → ℤ) → Joins f → {s x t y : ℤ} {a b : ℕ} → Stands s x a → Stands t y b → Stands (f s t) (f x y) (a + b)
joined f l {s} {x} {t} {y} p q =
    let e = p.is in
    let g = q.is in
    record { is = cc; within = omega (arith, l x y, p.within, q.within) }

-- what 64 bits hold of two numbers joined is the two joined, where neither is larger than a reading
pub exact : (f : ℤ → ℤ → ℤ) → Joins f → (x y : ℤ) → nat_abs x ≤ most_reading → nat_abs y ≤ most_reading → wrapped f x y ≡ f x y
exact f l x y h k = int_wrap_fits w64 (f x y) (fits_signed_from_abs w64 (f x y) (omega (arith, l x y, h, k)))

module _ {A : Type 0} (by : (ℤ → ℤ → ℤ) → A → A → A) (s : List ℕ) where
  -- what holds of each current, and of the two joined, holds of the one that is picked
  pub picked_has : (P : A → Type 0) (bus coupler : A) → P bus → P coupler → ((f : ℤ → ℤ → ℤ) → Joins f → P (by f bus coupler)) → P (picked_of by s bus coupler)
  unfolding picked_of
  picked_has P bus coupler b c j =
      chosen P (eqb (slot s compensation_current) 0) _ _ (λ p. b)
      (λ p. chosen P (eqb (slot s compensation_current) 1) _ _ (λ q. c)
      (λ q. chosen P (eqb (slot s compensation_current) 2) _ _ (λ o. j ◌-ℤ◌ nat_abs-sub)
      (λ o. j ◌+ℤ◌ nat_abs-add)))

  -- whatever joins the two alike, the choice is the same
  pub picked_alike : (other : (ℤ → ℤ → ℤ) → A → A → A) (bus coupler : A) → ((f : ℤ → ℤ → ℤ) → Joins f → by f bus coupler ≡ other f bus coupler)
      → picked_of by s bus coupler ≡ picked_of other s bus coupler
  unfolding picked_of
  picked_alike other bus coupler h = rw (h ◌-ℤ◌ nat_abs-sub, h ◌+ℤ◌ nat_abs-add)

  -- a current that slot 4 does not name is not needed
  pub coupler_unneeded : (a b c : A) → slot s compensation_current ≡ 0 → picked_of by s a b ≡ picked_of by s a c
  unfolding picked_of
  coupler_unneeded a b c e = sym (yes _ _ _ _ (eq-eqb _ _ e) refl) ∙ yes _ _ _ _ (eq-eqb _ _ e) refl

  pub bus_unneeded : (a b c : A) → slot s compensation_current ≡ 1 → picked_of by s a c ≡ picked_of by s b c
  unfolding picked_of choose
  bus_unneeded a b c e = rw e refl
