-- The parts of a decision make it: each law is over plain values, as a function's branches have them, and `search` finds it.
-- Assumes nothing.
use mathlib.Core.Path.{◌≡◌, refl, sym, ◌∙◌}
use denote.Enum.Bare.{sameb}
use mathlib.Core.Bool.{Bool, true, false, not, ◌&&◌, ◌||◌}
use mathlib.Core.List.{List}
use Prim.Native.Nat.{ℕ}
use Rattle.common.proofs.Cases.{yes, no, cases}
use Rattle.slots.specs.Slots.{slot, t1, t2, t3, is_continuous}
use Rattle.ways.specs.contracts.Direction.{the_type}
use Rattle.ways.specs.declared.Direction.{Direction}
use Rattle.ways.specs.declared.Direction.TheVariants.{Raise, Lower}
use Rattle.std.specs.Prelude.{Option, None, Some}
use Rattle.ways.specs.Ways.{lowers, is_to, other_of, newer_of}
use Rattle.blocks.specs.Blocked.{opposed_of}
use Rattle.command.specs.declared.Wait.{Wait}
use Rattle.command.specs.declared.Situation.{Situation}
use Rattle.command.specs.declared.Decided.{Decided}
use Rattle.command.specs.Idling.{idle_of, waits_for}
use Rattle.command_automatic.specs.Automatic.{ticks_of, waited_of, delay_of, wait_on_of, toward_of, sided_of, kept_of, repeat_of}

-- the wait to a side
same_is : (d e : Direction) → sameb the_type e d ≡ is_to d (Some e)
same_is Raise Raise = refl
same_is Raise Lower = refl
same_is Lower Raise = refl
same_is Lower Lower = refl

module _ (n : ℕ) (d : Direction) (w : Option Wait) where
  pub waited_idle : w ≡ None → n ≡ 0 → n ≡ waited_of d w
  unfolding waited_of
  waited_idle p q = rw p q

  pub waited_for : (e : Direction) (k : ℕ) → w ≡ waits_for e k → n ≡ ticks_of d (Some e) k → n ≡ waited_of d w
  unfolding waited_of
  waited_for e k p q = rw p q

  pub waited_same : (v : Wait) → w ≡ Some v → true ≡ sameb the_type v.direction d → n ≡ v.ticks → n ≡ waited_of d w
  unfolding waited_of ticks_of
  waited_same v p t q = rw p (yes _ _ _ _ (sym (t ∙ same_is d v.direction)) q)

  pub waited_other : (v : Wait) → w ≡ Some v → false ≡ sameb the_type v.direction d → n ≡ 0 → n ≡ waited_of d w
  unfolding waited_of ticks_of
  waited_other v p t q = rw p (no _ _ _ _ (sym (t ∙ same_is d v.direction)) q)

-- the delay in force
module _ (s : List ℕ) (d : Direction) (far : Bool) (repeat : Option Direction) {r : ℕ} {low : Bool} (l : low ≡ lowers (Some d)) where
  pub delay_far : (low && far) ≡ true → r ≡ slot s t3 → r ≡ delay_of s d far repeat
  unfolding delay_of
  delay_far t e = rw (← l) (yes _ _ _ _ t e)

  pub delay_repeat : {same : Bool} → (low && far) ≡ false → same ≡ is_to d repeat → (same && not (is_continuous s)) ≡ true → r ≡ slot s t2 → r ≡ delay_of s d far repeat
  unfolding delay_of
  delay_repeat f m t e = rw (← l, ← m) (no _ _ _ _ f (yes _ _ _ _ t e))

  pub delay_first : {same : Bool} → (low && far) ≡ false → same ≡ is_to d repeat → (same && not (is_continuous s)) ≡ false → r ≡ slot s t1 → r ≡ delay_of s d far repeat
  unfolding delay_of
  delay_first f m t e = rw (← l, ← m) (no _ _ _ _ f (no _ _ _ _ t e))

-- a deviation
module _ (s : List ℕ) (x : Situation) (r : Decided) where
  pub toward_blocked : (d : Direction) {o : Bool} → o ≡ opposed_of x.blocks d → (x.blocks.automatic || o) ≡ true → r ≡ idle_of → r ≡ toward_of s x d
  unfolding toward_of
  toward_blocked d e t q = rw (← e) (yes _ _ _ _ t q)

  pub toward_free : (d : Direction) {o : Bool} {n delay : ℕ} → o ≡ opposed_of x.blocks d → (x.blocks.automatic || o) ≡ false
      → n ≡ waited_of d x.wait → delay ≡ delay_of s d x.far x.repeat → r ≡ wait_on_of d n delay → r ≡ toward_of s x d
  unfolding toward_of
  toward_free d e t p m q = rw (← e, ← p, ← m) (no _ _ _ _ t q)

  pub sided_neither : (w : Option Direction) → w ≡ None → r ≡ idle_of → r ≡ sided_of s x w
  unfolding sided_of
  sided_neither w p q = rw p q

  pub sided_to : (w : Option Direction) (d : Direction) → w ≡ Some d → r ≡ toward_of s x d → r ≡ sided_of s x w
  unfolding sided_of
  sided_to w d p q = rw p q

-- the side for which T2 is in force
module _ (in_band : Bool) (side old r : Option Direction) {other : Bool} (e : other ≡ other_of side old) where
  pub kept_not : (in_band || other) ≡ true → r ≡ None → r ≡ kept_of in_band side old
  unfolding kept_of
  kept_not t q = rw (← e) (yes _ _ _ _ t q)

  pub kept_on : (in_band || other) ≡ false → r ≡ old → r ≡ kept_of in_band side old
  unfolding kept_of
  kept_on t q = rw (← e) (no _ _ _ _ t q)

pub repeat_automatic : (automatic in_band : Bool) (side command old r : Option Direction) {still : Option Direction} → still ≡ kept_of in_band side old → r ≡ newer_of command still → automatic ≡ true → r ≡ repeat_of automatic in_band side command old
unfolding repeat_of
repeat_automatic automatic in_band side command old r e q t = rw (← e) (yes _ _ _ _ t q)

pub ruleset made = (waited_idle, waited_for, waited_same, waited_other, delay_far, delay_repeat, delay_first, toward_blocked, toward_free, sided_neither, sided_to, kept_not, kept_on, repeat_automatic, cases)
