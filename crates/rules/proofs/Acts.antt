-- The rules make what is done: a law over plain values, as the function has them, and `search` finds it.
-- Assumes nothing.
use mathlib.Core.Path.{◌≡◌}
use mathlib.Core.List.{List}
use Prim.Native.Nat.{ℕ}
use Rattle.input.specs.declared.Contacts.{Contacts}
use Rattle.drive.specs.declared.Drive.{Drive}
use Rattle.fault.specs.declared.Latch.{Latch}
use Rattle.blocks.specs.declared.Blocks.{Blocks}
use Rattle.command.specs.declared.Memory.{Memory}
use Rattle.sensing.specs.declared.Sensed.{Sensed}
use Rattle.acting_judging.specs.declared.Finding.{Finding}
use Rattle.acting_judging.specs.Judging.{blocked_of}
use Rattle.acting_supervising.specs.declared.Supervised.{Supervised}
use Rattle.acting_supervising.specs.Supervising.{supervised_of}
use Rattle.acting_commanding.specs.declared.Regulated.{Regulated}
use Rattle.acting_commanding.specs.Commanding.{regulated_of}
use Rattle.acting_accounting.specs.declared.Accounted.{Accounted}
use Rattle.acting_accounting.specs.declared.Wear.{Wear}
use Rattle.acting_accounting.specs.Accounting.{accounted_of}
use Rattle.rules.specs.declared.Acted.{Acted}
use Rattle.rules.specs.Acting.{finding_of, acted_of}

module _ (s : List ℕ) (c : Contacts) (x : Sensed) (d : Drive) (l : Latch) (m : Memory) (w : Wear) where
  pub act_made : {f : Finding} {v : Supervised} {b : Blocks} {g : Regulated} {a : Accounted}
      → f ≡ finding_of x
      → v ≡ supervised_of s c f d l w.last
      → b ≡ blocked_of s c v.latch.fault f
      → g ≡ regulated_of s c x.assessed b m d v.drive v.latch.fault
      → a ≡ accounted_of s v.ended v.operation w
      → ◌≡◌ {A = Acted} (record { supervised = v; blocks = b; regulated = g; accounted = a }) (acted_of s c x d l m w)
  unfolding acted_of
  act_made f p q u w = rw (← f, ← p, ← q, u, w)
