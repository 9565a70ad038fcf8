-- What a look finds, tick by tick: the first command, or none.
-- Assumes nothing.
use Prim.Native.Nat.{ℕ, zero, suc, ◌+◌}
use native.Mathlib.Omega.{arith}
use mathlib.Core.Path.{◌≡◌, refl, ap, ◌∙◌}
use mathlib.Core.Logic.{◌⊎◌, inl, inr, ⊎_elim}
use Rattle.ways.specs.declared.Direction.{Direction}
use Rattle.std.specs.Prelude.{Option, None, Some}
use Rattle.input.specs.declared.Input.{Input}
use Rattle.record.specs.declared.Regulator.{Regulator}
use Rattle.claim.specs.Claim.{Command}
use Rattle.claim.specs.Runs.{At}
use Rattle.rules.specs.Lists.{left_by, seen_on}
use Rattle.rules.proofs.Steps.{never_both_lem}
use Rattle.ahead.specs.Looking.{Answer, looked_on, looked_from, begun_by, stands_at, found_or, first_after}
use Rattle.ahead.specs.Words.{repeated_ticks, after_ticks, NoCommand}
use Rattle.ahead.proofs.Begun.{none_exactly}

module _ (i : Input) where
  -- a command on the tick after `before` of n, and none sooner; k ticks went before all these
  pub record Found (a : At Regulator) (n k : ℕ) (o : Answer) : Type 0 where
    pub direction : Direction
    pub before : ℕ
    pub later : ℕ
    pub whole : n ≡ before + suc later
    pub none : NoCommand (repeated_ticks a i before)
    pub begins : begun_by (seen_on (after_ticks a i before) i) ≡ Some direction
    pub is : o ≡ stands_at (k + before + 1) (Some direction) (looked_on (after_ticks a i before) i)

  -- what stands after n ticks without a command
  abbrev pub last_of : Answer → At Regulator → ℕ → Answer
  last_of last a zero = last
  last_of last a (suc n) = last_of (stands_at 0 None (looked_on a i)) (left_by a i) n

  pub record NoneFound (last : Answer) (a : At Regulator) (n : ℕ) (o : Answer) : Type 0 where
    pub none : NoCommand (repeated_ticks a i n)
    pub is : o ≡ last_of last a n

  module _ (a : At Regulator) (n k : ℕ) (last : Answer) where
    abbrev seen_last : Answer
    seen_last = stands_at 0 None (looked_on a i)

    abbrev onward : Answer
    onward = first_after (k + 1) seen_last (looked_from (left_by a i) i n)

    begun_now : (d : Direction) → begun_by (seen_on a i) ≡ Some d → Found a (suc n) k (first_after k last (looked_from a i (suc n)))
    unfolding first_after found_or
    begun_now d e =
        record {
          direction = d;
          before = 0;
          later = n;
          whole = omega arith;
          none = tt;
          begins = e;
          is = ap (λ (w : Option Direction). found_or (k + 1) (looked_on a i) w onward) e ∙ ap (λ (m : ℕ). stands_at m (Some d) (looked_on a i)) (omega arith);
        }

    not_now : begun_by (seen_on a i) ≡ None → first_after k last (looked_from a i (suc n)) ≡ onward
    unfolding first_after found_or
    not_now e = ap (λ (w : Option Direction). found_or (k + 1) (looked_on a i) w onward) e

    no_command_lem : begun_by (seen_on a i) ≡ None → Command (seen_on a i) → ⊥
    no_command_lem e = (none_exactly (seen_on a i) (never_both_lem a.got i)).0 e

    found_on : begun_by (seen_on a i) ≡ None → Found (left_by a i) n (k + 1) onward → Found a (suc n) k (first_after k last (looked_from a i (suc n)))
    found_on e f =
        record {
          direction = f.direction;
          before = suc f.before;
          later = f.later;
          whole = let w : n ≡ f.before + suc f.later = f.whole in omega arith;
          none = (no_command_lem e, f.none);
          begins = f.begins;
          is =
              not_now e ∙ f.is
              ∙ ap (λ (m : ℕ). stands_at m (Some f.direction) (looked_on (after_ticks (left_by a i) i f.before) i)) (omega arith);
        }

    none_on : begun_by (seen_on a i) ≡ None → NoneFound seen_last (left_by a i) n onward → NoneFound last a (suc n) (first_after k last (looked_from a i (suc n)))
    none_on e f = record { none = (no_command_lem e, f.none); is = not_now e ∙ f.is }

  abbrev Either : At Regulator → ℕ → ℕ → Answer → Type 0
  Either a n k last = Found a n k (first_after k last (looked_from a i n)) ⊎ NoneFound last a n (first_after k last (looked_from a i n))

  -- the look finds the first command, or there is none
  pub looked : (a : At Regulator) (n k : ℕ) (last : Answer) → Either a n k last
  unfolding first_after
  looked a zero k last = inr (record { none = tt; is = refl })
  looked a (suc n) k last = by_way (begun_by (seen_on a i)) refl (looked (left_by a i) n (k + 1) (stands_at 0 None (looked_on a i)))
    where
      by_way : (w : Option Direction) → begun_by (seen_on a i) ≡ w → Either (left_by a i) n (k + 1) (stands_at 0 None (looked_on a i)) → Either a (suc n) k last
      by_way (Some d) e later = inl (begun_now a n k last d e)
      by_way None e later = ⊎_elim (λ f. inl (found_on a n k last e f)) (λ f. inr (none_on a n k last e f)) later
