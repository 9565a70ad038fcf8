-- Rule 2 of 01, the fault's latch and age, and outputs 19 to 23. Definitions only.
use Rattle.std.specs.Prelude.{ℕ, ◌+◌, Bool, true, false, ◌&&◌, ◌||◌, Option, None, Some, ltb, leb, eqb}
use Rattle.common.specs.Choice.{choose}
use Rattle.fault.specs.declared.Fault.{Fault}
use Rattle.fault.specs.declared.Fault.TheVariants.{RunAway, NotStarted, Long, Fast}
use Rattle.fault.specs.declared.Latch.{Latch}

abbrev pub is_fault : Option Fault → Bool
is_fault None = false
is_fault (Some f) = true

-- limits of a record with slot 63 (02, ticket 2): "no fault but 'long'"
abbrev pub long_or_none : Option Fault → Bool
long_or_none None = true
long_or_none (Some RunAway) = false
long_or_none (Some NotStarted) = false
long_or_none (Some Long) = true
long_or_none (Some Fast) = false

-- "run-away or long"
abbrev pub trips_supply : Option Fault → Bool
trips_supply None = false
trips_supply (Some RunAway) = true
trips_supply (Some NotStarted) = false
trips_supply (Some Long) = true
trips_supply (Some Fast) = false

-- "reset clears the fault"
unfoldable pub reset_of : Latch → Bool → Latch
reset_of l pressed = choose pressed (record { fault = None; age = 0 }) l

unfoldable pub later_of : Option Fault → Option Fault → Option Fault
later_of old new = choose (is_fault new) new old

-- fault age: "ticks the fault has lasted, its first included, held at T8"; 0 without fault
unfoldable pub age_of : Option Fault → ℕ → ℕ → ℕ
age_of f age t8 = choose (is_fault f) (choose (ltb age t8) (age + 1) t8) 0

-- the latch after a tick on which the fault `new`, or none, arose
unfoldable pub latched_of : Latch → Option Fault → ℕ → Latch
latched_of l new t8 = record { fault = later_of l.fault new; age = age_of (later_of l.fault new) l.age t8 }

-- supply trip: "run-away or long: lasting, or the first T8 ticks". The fault is in its first T8 ticks if it had lasted fewer before this one.
abbrev pub supply_of : Option Fault → ℕ → ℕ → Bool → Bool
supply_of f before t8 lasting = trips_supply f && (lasting || ltb before t8)

-- limits of a record: fault age "at most T8, 0 without fault"
abbrev pub latch_within : Latch → ℕ → Bool
latch_within l t8 = leb l.age t8 && (is_fault l.fault || eqb l.age 0)

-- outputs "19–22 run-away, not started, long, fast"
abbrev pub field_of : Option Fault → ℕ
field_of None = 0
field_of (Some RunAway) = 19
field_of (Some NotStarted) = 20
field_of (Some Long) = 21
field_of (Some Fast) = 22
