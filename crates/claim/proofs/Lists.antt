-- Lists of ticks, asked tick by tick.
-- Assumes nothing.
use Prim.Native.Nat.{ℕ, zero, suc}
use mathlib.Core.List.{List, [], ◌∷◌, ◌++◌}
use mathlib.Core.Logic.{◌⊎◌, inl, inr, ⊎_elim}
use lib.ListN.{replicate}
use Rattle.claim.specs.Claim.{Tick, All, Some}

module _ (P : Tick → Type 0) where
  pub all_front : (a b : List Tick) → All P (a ++ b) → All P a
  all_front [] b h = tt
  all_front (t ∷ a) b h = (h.0, all_front a b h.1)

  pub all_join : (a b : List Tick) → All P a → All P b → All P (a ++ b)
  all_join [] b p q = q
  all_join (t ∷ a) b p q = (p.0, all_join a b p.1 q)

  pub all_back : (a b : List Tick) → All P (a ++ b) → All P b
  all_back [] b h = h
  all_back (t ∷ a) b h = all_back a b h.1

  pub some_back : (a b : List Tick) → Some P b → Some P (a ++ b)
  some_back [] b h = h
  some_back (t ∷ a) b h = inr (some_back a b h)

  -- a property that is decided at each tick holds of some, or of none
  pub some_or_none : ((t : Tick) → P t ⊎ (P t → ⊥)) → (l : List Tick) → Some P l ⊎ All (λ t. P t → ⊥) l
  some_or_none d [] = inr tt
  some_or_none d (t ∷ l) =
      ⊎_elim (λ p. inl (inl p)) (λ n. ⊎_elim (λ h. inl (inr h)) (λ h. inr (n, h)) (some_or_none d l)) (d t)

  pub all_same : (n : ℕ) (t : Tick) → P t → All P (replicate n t)
  all_same zero t p = tt
  all_same (suc n) t p = (p, all_same n t p)

  pub all_last : (a : List Tick) (t : Tick) → All P (a ++ (t ∷ [])) → P t
  all_last a t h = (all_back a (t ∷ []) h).0

  pub some_none : (l : List Tick) → All (λ t. P t → ⊥) l → Some P l → ⊥
  some_none [] n x'' = elim x'' [ ]
  some_none (t ∷ l) n (inl p) = n.0 p
  some_none (t ∷ l) n (inr s) = some_none l n.1 s

pub all_map : {P Q : Tick → Type 0} (l : List Tick) → ((t : Tick) → P t → Q t) → All P l → All Q l
all_map [] f h = tt
all_map (t ∷ l) f h = (f t h.0, all_map l f h.1)
