-- The other memories of a record, by the ticks before: the last direction, the fault, the press that is remembered, the counted tap, an
-- organ's mark. Definitions only.
use Rattle.std.specs.Prelude.{ℕ, ◌+◌, ◌*◌, ◌<◌, ◌≡◌, Bool, false, not, ◌&&◌, List, [], ◌∷◌, Option, None, Some, eqb}
use Rattle.common.specs.Choice.{choose}
use Rattle.slots.specs.Slots.{slot, tap_source}
use Rattle.ways.specs.declared.Direction.{Direction}
use Rattle.ways.specs.Ways.{raises, lowers}
use Rattle.input.specs.Brought.{bit_of}
use Rattle.fault.specs.declared.Fault.{Fault}
use Rattle.organ.specs.declared.OrganInput.{OrganInput}
use Rattle.organ.specs.declared.Side.{Side}
use Rattle.organ.specs.declared.Side.TheVariants.{Over, Under}
use Rattle.claim.specs.Claim.{Tick, Accepted}
use Rattle.history.specs.Kept.{SetAndKept}
use Rattle.history.specs.Pasts.{Past, Out, Ran, Faultless}

-- ---- the last direction: "an ended move, fast or not, becomes the last direction"

pub record Ends (d : Direction) (p : Past) : Type 0 where
  pub ran : Ran p.tick
  pub ended : p.ended ≡ Some d

pub record EndsNone (p : Past) : Type 0 where
  pub not_out : Out p.tick → ⊥
  pub ended : p.ended ≡ None

abbrev pub LastMove : Direction → List Past → Type 0
LastMove d past = SetAndKept Past (Ends d) (λ p. Accepted p.tick → EndsNone p) past

-- ---- the fault: it lasts until "reset clears the fault", or out

pub record Arises (f : Option Fault) (p : Past) : Type 0 where
  pub ran : Ran p.tick
  pub arose : p.arose ≡ f

pub record ArisesNone (p : Past) : Type 0 where
  pub not_out : Out p.tick → ⊥
  pub not_reset : bit_of p.tick.contacts 12 ≡ false
  pub arose : p.arose ≡ None

abbrev pub Latched : Option Fault → List Past → Type 0
Latched f past = SetAndKept Past (Arises f) (λ p. Accepted p.tick → ArisesNone p) past

-- ---- the press that is remembered (02, tickets 6 and 7)

-- "in manual mode .. on a tick that starts with a command or move unfinished"; "fault, automatic, local drive and out drop it"
pub record Remembering (t : Tick) : Type 0 where
  pub unfinished : t.rest ≡ false
  pub manual : bit_of t.contacts 14 ≡ false
  pub not_local : bit_of t.contacts 15 ≡ false
  pub faultless : Faultless t
  pub not_out : Out t → ⊥

-- "one press, as rule 9 judges it, blocks aside"
pub record Presses (d : Direction) (p : Past) : Type 0 where
  pub accepted : Accepted p.tick
  pub remembering : Remembering p.tick
  pub press : p.press ≡ Some d

-- "the latest replacing the earlier one"; "a change of mode drops a remembered press"
pub record PressesNone (p : Past) : Type 0 where
  pub remembering : Remembering p.tick
  pub press : p.press ≡ None
  pub same_mode : p.changed ≡ false

abbrev pub PressedLast : Direction → List Past → Type 0
PressedLast d past = SetAndKept Past (Presses d) (λ p. Accepted p.tick → PressesNone p) past

-- ---- the counted tap: "raise +1, reversed −1, lower the opposite; past an end it stays"

-- "3 counted, 4 counted reversed"
abbrev pub upward : List ℕ → Option Direction → Bool
upward s w = choose (eqb (slot s tap_source) 4) (lowers w) (raises w)

abbrev pub downward : List ℕ → Option Direction → Bool
downward s w = choose (eqb (slot s tap_source) 4) (raises w) (lowers w)

-- the ticks on which a move ended that steps the tap up, or down, and not past an end
abbrev pub tick_count : (Past → Bool) → List Past → ℕ
tick_count f [] = 0
tick_count f (p ∷ ps) = choose (f p) 1 0 + tick_count f ps

abbrev pub ups_of : List ℕ → List Past → ℕ
ups_of s past = tick_count (λ p. upward s p.ended && not p.past_end) past

abbrev pub downs_of : List ℕ → List Past → ℕ
downs_of s past = tick_count (λ p. downward s p.ended && not p.past_end) past

-- ---- an organ's mark, by what its ticks bring

-- "over: marked if value > set"; "under: < set"
abbrev pub Beyond : Side → ℕ → ℕ → Type 0
Beyond Over value limit = limit < value
Beyond Under value limit = value < limit

-- "cleared if 20 × value < 19 × set"; under: "20 × value > 21 × set"
abbrev pub Returned : Side → ℕ → ℕ → Type 0
Returned Over value limit = 20 * value < 19 * limit
Returned Under value limit = 21 * limit < 20 * value

pub record Marks (x : OrganInput) : Type 0 where
  pub value : ℕ
  pub live : x.value ≡ Some value
  pub beyond : Beyond x.side value x.limit

-- "off, no section or missing: cleared"; "else kept"
pub record Leaves (x : OrganInput) : Type 0 where
  pub value : ℕ
  pub live : x.value ≡ Some value
  pub not_returned : Returned x.side value x.limit → ⊥

abbrev pub MarkedLast : List OrganInput → Type 0
MarkedLast xs = SetAndKept OrganInput Marks Leaves xs
