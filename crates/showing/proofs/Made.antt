-- The parts of a rule make it: each law is over plain values, as the function has them, and `search` finds it.
-- Assumes nothing.
use mathlib.Core.Path.{◌≡◌}
use mathlib.Core.Bool.{Bool}
use mathlib.Core.List.{List}
use Prim.Native.Nat.{ℕ}
use lib.Dec.{eqb}
use Rattle.slots.specs.Slots.{slot, supply_trip, t7, t8}
use Rattle.std.specs.Prelude.{Option}
use Rattle.ways.specs.declared.Direction.{Direction}
use Rattle.drive_follow.specs.Follow.{rests_of}
use Rattle.fault.specs.Latches.{supply_of, field_of}
use Rattle.drive_shown.specs.Shown.{on_of}
use Rattle.ways.specs.Ways.{raises, lowers}
use Rattle.showing.specs.declared.Shown.{Shown}
use Rattle.showing.specs.declared.Signals.{Signals}
use Rattle.showing.specs.Showing.{is_low, is_high, counted_of, counts_of, signals_of}

-- what the outputs show
module _ (s : List ℕ) (x : Shown) where
  pub signals_made : {on : Option Direction} {raise lower low high supply rests : Bool} {field operations : ℕ}
      → on ≡ on_of x.drive (slot s t7)
      → raise ≡ raises on
      → lower ≡ lowers on
      → low ≡ is_low x.level
      → high ≡ is_high x.level
      → field ≡ field_of x.latch.fault
      → supply ≡ supply_of x.latch.fault x.before (slot s t8) (eqb (slot s supply_trip) 1)
      → rests ≡ rests_of x.drive
      → operations ≡ counted_of (counts_of s) x.operations
      → ◌≡◌ {A = Signals}
      (record { raise = raise; lower = lower; low = low; high = high; field = field; supply = supply; rests = rests; operations = operations })
      (signals_of s x)
  unfolding signals_of
  signals_made po pr pl pw ph pf ps pe pn = rw (pr, pl, po, pw, ph, pf, ps, pe, pn)
