-- The stages: each law is over plain values, as the function has them, and `search` finds it.
-- Assumes nothing.
use mathlib.Core.Path.{◌≡◌, ap, ◌∙◌}
use mathlib.Core.List.{List}
use Prim.Native.Nat.{ℕ, ◌<◌, ◌≤◌}
use borrow.Author.Rules.{rules}
use borrow.Author.Tests.{le-leb, lt-leb}
use Rattle.common.proofs.Cases.{yes, no}
use Rattle.slots.specs.Slots.{slot, resistance, reactance}
use Rattle.measure.specs.declared.Channel.TheVariants.{Voltage}
use Rattle.measure.specs.Readings.{limit_of}
use Rattle.phasor.specs.declared.Phasors.{Phasors}
use Rattle.phasor.specs.declared.Vector.{Vector}
use Rattle.phasor.specs.Pairs.{vector_of}
use Rattle.std.specs.Prelude.{Option, None}
use lib.IntN.{ℤ}
use Rattle.line_current.specs.Pair.{current_of}
use Rattle.line_current.proofs.Parts.{pair_within, current_within}
use Rattle.line.specs.Along.{most_impedance, remains_of, magnitude_of, far_end_of, along_of}
use Rattle.line.proofs.Parts.{remains_within}

module _ (m : Option ℤ) (s : List ℕ) (u i : Option Vector) where
  pub end_made : (v : Option Vector) → slot s resistance ≤ most_impedance → slot s reactance ≤ most_impedance → v ≡ remains_of (slot s resistance) (slot s reactance) u i
      → m ≡ magnitude_of v → m ≡ far_end_of s u i
  unfolding far_end_of
  end_made v a b e q = yes _ _ _ _ (le-leb _ _ a) (yes _ _ _ _ (le-leb _ _ b) (q ∙ ap magnitude_of e))

  pub high_reactance : slot s resistance ≤ most_impedance → most_impedance < slot s reactance → m ≡ None → m ≡ far_end_of s u i
  unfolding far_end_of
  high_reactance a b q = yes _ _ _ _ (le-leb _ _ a) (no _ _ _ _ (lt-leb _ _ b) q)

  pub high_resistance : most_impedance < slot s resistance → m ≡ None → m ≡ far_end_of s u i
  unfolding far_end_of
  high_resistance a q = no _ _ _ _ (lt-leb _ _ a) q

pub ruleset ends = (remains_within, end_made, high_reactance, high_resistance, rules)

pub along_made : (m : Option ℤ) (s : List ℕ) (p : Phasors) (u i : Option Vector) → u ≡ vector_of (limit_of Voltage) p.u_ab → i ≡ current_of s p → m ≡ far_end_of s u i
    → m ≡ along_of s p
unfolding along_of
along_made m s p u i f k q = rw (← f, ← k) q

pub ruleset stages = (pair_within, current_within, along_made, rules)
