-- Whether a tap stands in a slot for sliding taps, as the library's search of the slots finds it.
-- Assumes nothing.
use Rattle.std.proofs.Common.{◌≡◌, refl, Bool, not, ◌&&◌, List, ℕ, zero, suc, ◌+◌, ◌<◌, ◌≤◌, add-one, arith, length, take, drop, nat_eq, length-drop}
use Rattle.std.specs.List.{list_any}
use Rattle.std.proofs.lemmas.List.{get_or-drop}
use Rattle.std.proofs.lemmas.List.Folds.{list_any_more}
use Rattle.slots.specs.Slots.{slots, sliding_taps}
use Rattle.tap_sliding.specs.Sliding.{sliding, stands_in, sliding_of}

module _ (s : List ℕ) (tap : ℕ) where
  stands_lem : (n : ℕ) → sliding_taps + n ≤ length s → list_any (λ y. nat_eq y tap) (take n (drop sliding_taps s)) ≡ stands_in s tap n
  unfolding stands_in
  stands_lem zero h = refl
  stands_lem (suc n) h =
      let l : n < length (drop sliding_taps s) = omega (arith, length-drop {A = ℕ}) in
      rw (← add-one, list_any_more (λ y. nat_eq y tap) (drop sliding_taps s) n 0 l, get_or-drop, stands_lem n (omega arith))

  pub stands_found : (found : Bool) → length s ≡ slots → found ≡ list_any (λ y. nat_eq y tap) (take sliding (drop sliding_taps s))
      → (found && not (nat_eq tap 0)) ≡ sliding_of s tap
  unfolding sliding_of
  stands_found found l e = rw (e, stands_lem sliding (omega arith))
