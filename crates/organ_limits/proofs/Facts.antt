-- Facts of an organ, for every delay and every limit.
-- Assumes nothing.
use mathlib.Core.Path.{◌≡◌, refl, sym, ◌∙◌}
use mathlib.Core.Bool.{Bool, true, false, ◌&&◌}
use mathlib.Core.List.{List, [], ◌∷◌, ◌++◌}
use Prim.Native.Nat.{ℕ, zero, suc, ◌+◌, ◌*◌, ◌≤◌, ◌<◌, min}
use native.Mathlib.Omega.{arith}
use borrow.Author.Tests.{ltb-true, ltb-false, leb-true, leb-false, le-leb, lt-leb}
use lib.Dec.{ltb, leb}
use lib.ListN.{length, replicate, length-replicate}
use Rattle.common.specs.Choice.{choose}
use Rattle.common.proofs.Cases.{cases, chosen}
use Rattle.std.specs.Prelude.{None}
use Rattle.organ.specs.declared.Organ.{Organ}
use Rattle.organ.specs.declared.OrganInput.{OrganInput}
use Rattle.organ.specs.Organs.{over_of, under_of, mark_of, count_of, organ_of, trip_of}
use Rattle.organ_limits.specs.Limits.{organ_within}
use Rattle.organ.specs.Runs.{cleared, over_tick, run_of, row_from, Delayed, Marked, none, more}
use Rattle.organ_limits.proofs.Within.{no_count, cleared_within}

-- the mark against the value and the limit
module _ (was : Bool) (v l : ℕ) where
  pub over_marked : l < v → over_of was v l ≡ true
  over_marked p = sym (search cases)

  pub over_cleared : 20 * v < 19 * l → over_of was v l ≡ false
  over_cleared p =
      let h : v ≤ l = omega arith in
      sym (search cases)

  -- between the two thresholds, both included, the mark is kept
  pub over_kept : v ≤ l → 19 * l ≤ 20 * v → over_of was v l ≡ was
  over_kept p q = sym (search cases)

  pub under_marked : v < l → under_of was v l ≡ true
  under_marked p = sym (search cases)

  pub under_cleared : 21 * l < 20 * v → under_of was v l ≡ false
  under_cleared p =
      let h : l ≤ v = omega arith in
      sym (search cases)

  pub under_kept : l ≤ v → 20 * v ≤ 21 * l → under_of was v l ≡ was
  under_kept p q = sym (search cases)

-- an unmarked tick clears the organ; so does one on which it is not live
module _ (o : Organ) (x : OrganInput) where
  pub unmarked_clears : mark_of o.marked x ≡ false → organ_of o x ≡ cleared
  unfolding organ_of choose
  unmarked_clears p = rw p

  pub not_live_clears : x.value ≡ None → organ_of o x ≡ cleared
  not_live_clears p = unmarked_clears (rw p refl)

-- The count is the marked ticks in a row, held at the delay: after any list of ticks.
held_on_lem : (m : Bool) (n d : ℕ) → count_of m (min n d) d ≡ min (choose m (n + 1) 0) d
unfolding choose
held_on_lem true n d =
    chosen (λ k. k ≡ min (n + 1) d) (ltb (min n d) d) (min n d + 1) d
    (λ p. omega (arith, ltb-true (min n d) d p))
    (λ p. omega (arith, ltb-false (min n d) d p))
held_on_lem false n d = omega arith

count_from : (d n : ℕ) (o : Organ) (xs : List OrganInput) → Delayed d xs → o.count ≡ min n d → (run_of o xs).count ≡ min (row_from n o xs) d
unfolding run_of row_from organ_of
count_from d n o [] none p = p
count_from d n o (x ∷ xs) (more e r) p = count_from d (choose (mark_of o.marked x) (n + 1) 0) (organ_of o x) xs r (rw (p, e) (held_on_lem (mark_of o.marked x) n d))

-- it reaches the delay when the row does
reaches : (n d : ℕ) (b : Bool) → leb d n ≡ b → leb d (min n d) ≡ b
reaches n d true p = le-leb d (min n d) (omega (arith, leb-true d n p))
reaches n d false p = lt-leb d (min n d) (omega (arith, leb-false d n p))

module _ (d : ℕ) (o : Organ) (xs : List OrganInput) (within : organ_within d o ≡ true) (unmarked : o.marked ≡ false) (delayed : Delayed d xs) where
  pub count_is : (run_of o xs).count ≡ min (row_from 0 o xs) d
  count_is = count_from d 0 o xs delayed (omega (arith, no_count d o within unmarked))

  -- a tick after the list trips if it is marked and at least its delay of marked ticks are directly before
  pub trip_is : (x : OrganInput) → x.delay ≡ d → trip_of (run_of o xs) x ≡ (mark_of (run_of o xs).marked x && leb d (row_from 0 o xs))
  unfolding trip_of
  trip_is x e = rw (e, count_is, reaches (row_from 0 o xs) d (leb d (row_from 0 o xs)) refl)

-- a list that is all marked is one row
row_from_lem : (n : ℕ) (o : Organ) (xs : List OrganInput) → Marked o xs → row_from n o xs ≡ n + length xs
unfolding row_from choose
row_from_lem n o [] none = omega arith
row_from_lem n o (x ∷ xs) (more m r) = rw m (row_from_lem (n + 1) (organ_of o x) xs r ∙ omega arith)

-- From an organ that is not marked, a marked tick directly after a row of marked ticks trips if the row has reached the delay, and not before.
pub row_trips : (d : ℕ) (o : Organ) (row : List OrganInput) (x : OrganInput) → organ_within d o ≡ true → o.marked ≡ false
    → Delayed d row → Marked o row → x.delay ≡ d → mark_of (run_of o row).marked x ≡ true
    → trip_of (run_of o row) x ≡ leb d (length row)
row_trips d o row x p q r s e m =
    let k : row_from 0 o row ≡ length row = row_from_lem 0 o row s ∙ omega arith in
    trip_is d o row p q r x e ∙ rw (m, k)

-- An unmarked tick u, whatever was before it, has the row start again.
pub row_again : (d : ℕ) (o : Organ) (u : OrganInput) (row : List OrganInput) (x : OrganInput) → mark_of o.marked u ≡ false
    → Delayed d row → Marked (organ_of o u) row → x.delay ≡ d → mark_of (run_of o (u ∷ row)).marked x ≡ true
    → trip_of (run_of o (u ∷ row)) x ≡ leb d (length row)
unfolding run_of
row_again d o u row x p r s e m =
    let c : organ_of o u ≡ cleared = unmarked_clears o u p in
    row_trips d (organ_of o u) row x (rw c (cleared_within d)) (rw c) r s e m

-- what was before it is a list of ticks
pub run-append : (o : Organ) (xs ys : List OrganInput) → run_of o (xs ++ ys) ≡ run_of (run_of o xs) ys
unfolding run_of
run-append o [] ys = refl
run-append o (x ∷ xs) ys = run-append (organ_of o x) xs ys

-- Rows there are, of every length: k ticks above the limit are marked, so the tick after them trips if the delay is at most k.
module _ (l v d : ℕ) (above : l < v) where
  above_marked : (was : Bool) → mark_of was (over_tick l v d) ≡ true
  unfolding choose
  above_marked was = over_marked was v l above

  above_row : (k : ℕ) (o : Organ) → Marked o (replicate k (over_tick l v d))
  above_row zero o = none
  above_row (suc k) o = more (above_marked o.marked) (above_row k (organ_of o (over_tick l v d)))

  same_delay : (k : ℕ) → Delayed d (replicate k (over_tick l v d))
  same_delay zero = none
  same_delay (suc k) = more refl (same_delay k)

  pub trips_after : (k : ℕ) → trip_of (run_of cleared (replicate k (over_tick l v d))) (over_tick l v d) ≡ leb d k
  trips_after k =
      row_trips d cleared (replicate k (over_tick l v d)) (over_tick l v d) (cleared_within d) refl (same_delay k) (above_row k cleared) refl (above_marked _)
      ∙ rw length-replicate
