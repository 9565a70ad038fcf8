-- The delay in force, by the ticks before (rule 9 of 01; 02, ticket 2). Definitions only.
use Rattle.std.specs.Prelude.{◌≡◌, true, List, ◌⊎◌}
use Rattle.slots.specs.Slots.{slot, t1, t2, t3, continuous}
use Rattle.ways.specs.declared.Direction.{Direction}
use Rattle.ways.specs.declared.Direction.TheVariants.{Raise, Lower}
use Rattle.input.specs.Brought.{bit_of}
use Rattle.busbar_level.specs.declared.Level.{Level}
use Rattle.busbar_level.specs.declared.Level.TheVariants.{Low, InBand, High}
use Rattle.std.specs.Prelude.{Option, Some}
use Rattle.claim.specs.Claim.{Accepted, Begins, Command, delay_to}
use Rattle.history.specs.Kept.{SetAndKept}
use Rattle.history.specs.Pasts.{Past, Out}

-- the side that the other direction answers
abbrev pub other_side : Direction → Option Level
other_side Raise = Some High
other_side Lower = Some Low

-- an automatic command to this side begins on the tick
pub record Commands (d : Direction) (p : Past) : Type 0 where
  pub begins : Begins d p.tick
  pub automatic : bit_of p.tick.contacts 14 ≡ true

-- "no tick since was in band, to the other side, or in manual mode". That command is "the last automatic command", so none begins here;
-- and rule 1's fresh record has no "automatic command".
pub record Lasts (d : Direction) (p : Past) : Type 0 where
  pub not_in_band : p.level ≡ Some InBand → ⊥
  pub not_other : p.level ≡ other_side d → ⊥
  pub not_manual : bit_of p.tick.contacts 14 ≡ true
  pub no_command : Command p.tick → ⊥
  pub not_out : Out p.tick → ⊥

-- "the last automatic command was to this side and no tick since was in band, to the other side, or in manual mode". A refused tick leaves
-- the record as it was.
abbrev pub Repeats : Direction → List Past → Type 0
Repeats d past = SetAndKept Past (Commands d) (λ p. Accepted p.tick → Lasts d p) past

-- "high and U > U_set5": the high side is the one that a lower answers
abbrev pub FarAbove : Direction → Past → Type 0
FarAbove d p = (d ≡ Lower) × (p.above ≡ true)

-- the delay in force to a side on the tick p, after the ticks `past`. 02, ticket 2, with slot 63: "T3 where it names T3, else T1, never T2".
pub record DelayAfter (d : Direction) (past : List Past) (p : Past) : Type 0 where
  pub third : FarAbove d p → delay_to d p.tick ≡ slot p.tick.settings t3
  pub second :
      (FarAbove d p → ⊥) → (slot p.tick.settings continuous ≡ 1 → ⊥) → Repeats d past → delay_to d p.tick ≡ slot p.tick.settings t2
  pub first :
      (FarAbove d p → ⊥) → ((slot p.tick.settings continuous ≡ 1) ⊎ (Repeats d past → ⊥)) → delay_to d p.tick ≡ slot p.tick.settings t1
