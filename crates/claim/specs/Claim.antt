-- Demand 3 (01, 'The words of demand 3'; 02, ticket 2): what holds of every list of ticks, however long. It is stated over what can be seen of a tick,
-- so it is one claim for a list of records and for a list of a host's images.
-- Assumes nothing.
use Rattle.std.specs.Prelude.{ℕ, ◌+◌, ◌≤◌, ◌<◌, max, ◌≡◌, Bool, true, false, List, [], ◌∷◌, ◌++◌, ◌⊎◌, ◌↔◌, eqb, length, get_or}
use Rattle.common.specs.Choice.{choose}
use Rattle.slots.specs.Slots.{slot, in_service, t1, t2, t3, t4, t5, t6, continuous}
use Rattle.ways.specs.declared.Direction.{Direction}
use Rattle.ways.specs.declared.Direction.TheVariants.{Raise, Lower}
use Rattle.input.specs.Brought.{bit_of}

-- ---- the list

-- a tick of a list: whether the drive is at rest as it starts; of the record that it got, the settings and the delays that rule 9 names on
-- the tick, to the low side and to the high; the contacts that it brought; the refusal (0 for none) and the outputs that it gave
pub record Tick : Type 0 where
  pub rest : Bool
  pub settings : List ℕ
  pub low_delay : ℕ
  pub high_delay : ℕ
  pub contacts : ℕ
  pub refusal : ℕ
  pub outputs : List ℕ

-- what a list begins on: whether the record is within its limits; its settings; the wait that it holds to the low side and to the high
pub record Opening : Type 0 where
  pub within : Bool
  pub settings : List ℕ
  pub low_wait : ℕ
  pub high_wait : ℕ

-- output n of a tick
abbrev pub output : ℕ → Tick → ℕ
output n t = get_or t.outputs n 0

-- *at rest* as a tick starts: "the tick before gave output 24 as 0"
abbrev pub rest_after : List ℕ → Bool
rest_after outputs = eqb (get_or outputs 24 0) 0

abbrev pub All : (Tick → Type 0) → List Tick → Type 0
All P [] = Unit {0}
All P (t ∷ ts) = P t × All P ts

abbrev pub Some : (Tick → Type 0) → List Tick → Type 0
Some P [] = ⊥
Some P (t ∷ ts) = P t ⊎ Some P ts

-- ---- the two sides: the low side asks for a raise, the high side for a lower

-- 0 raise, 1 lower
abbrev pub command_field : Direction → ℕ
command_field Raise = 0
command_field Lower = 1

-- 15, 16 raise, lower blocked
abbrev pub block_field : Direction → ℕ
block_field Raise = 15
block_field Lower = 16

-- 17 low, 18 high
abbrev pub side_field : Direction → ℕ
side_field Raise = 17
side_field Lower = 18

abbrev pub delay_to : Direction → Tick → ℕ
delay_to Raise t = t.low_delay
delay_to Lower t = t.high_delay

abbrev pub wait_for : Direction → Opening → ℕ
wait_for Raise o = o.low_wait
wait_for Lower o = o.high_wait

-- 13, 14 automatic, manual blocked: "the mode is automatic with bit 14, else manual"
abbrev pub mode_field : ℕ → ℕ
mode_field contacts = choose (bit_of contacts 14) 13 14

-- the switching contact, bit 1
abbrev pub closed : Tick → Bool
closed t = bit_of t.contacts 1

-- ---- the words

-- accepted
abbrev pub Accepted : Tick → Type 0
Accepted t = t.refusal ≡ 0

-- *begins*: "an accepted tick that starts at rest begins a raise if its output 0 is 1, a lower if its output 1 is 1"
pub record Begins (d : Direction) (t : Tick) : Type 0 where
  pub accepted : Accepted t
  pub from_rest : t.rest ≡ true
  pub on : output (command_field d) t ≡ 1

abbrev pub Command : Tick → Type 0
Command t = Begins Raise t ⊎ Begins Lower t

-- *all else lasting*: as a waiting tick to the side must be, "rest and contact left aside"
pub record Lasting (d : Direction) (t : Tick) : Type 0 where
  pub accepted : Accepted t
  pub in_service : slot t.settings in_service ≡ 1
  pub not_out : bit_of t.contacts 13 ≡ false
  pub automatic : bit_of t.contacts 14 ≡ true
  pub deviates : output (side_field d) t ≡ 1
  pub mode_free : output 13 t ≡ 0
  pub side_free : output (block_field d) t ≡ 0
  pub no_run_away : output 19 t ≡ 0
  pub no_not_started : output 20 t ≡ 0
  pub no_long : output 21 t ≡ 0
  pub no_fast : output 22 t ≡ 0

-- "bit 1 clear"; 02, ticket 2: "a waiting tick asking for no open contact where slot 63 is 1"
abbrev pub Free : Tick → Type 0
Free t = (slot t.settings continuous ≡ 1) ⊎ (closed t ≡ false)

-- *waiting tick* to a side: with "the drive at rest as it starts", and that
pub record Waiting (d : Direction) (t : Tick) : Type 0 where
  pub lasting : Lasting d t
  pub rest : t.rest ≡ true
  pub contact : Free t

-- *began at zero*, after the ticks `pre` of a list: "the tick before the row is no waiting tick to that side, or the row opens the list on
-- a record .. that holds no wait to that side"
abbrev pub BeganAtZero : Direction → Opening → List Tick → Type 0
BeganAtZero d o [] = wait_for d o ≡ 0
BeganAtZero d o (t ∷ []) = Waiting d t → ⊥
BeganAtZero d o (t ∷ (u ∷ ts)) = BeganAtZero d o (u ∷ ts)

-- *delay in force*: "the one that rule 9 names on that tick"
abbrev pub InForce : Direction → ℕ → Tick → Type 0
InForce d n t = delay_to d t ≡ n

-- "the longest of T1, T2 and T3"
abbrev pub longest : List ℕ → ℕ
longest s = max (slot s t1) (max (slot s t2) (slot s t3))

-- the drive serves a command on the ticks `row` after its first. *Within T5 ticks*: "first closed on one of the T5 ticks after the
-- command's first, and its hold is the number of ticks closed in a row from there. At no other time: open on all other ticks".
pub record Serves (s : List ℕ) (row : List Tick) : Type 0 where
  pub before : List Tick
  pub held : List Tick
  pub after : List Tick
  pub whole : row ≡ before ++ (held ++ after)
  pub open_before : All (λ t. closed t ≡ false) before
  pub closed_held : All (λ t. closed t ≡ true) held
  pub open_after : All (λ t. closed t ≡ false) after
  pub in_time : length before < slot s t5
  pub closes : 0 < length held
  pub long_enough : slot s t6 ≤ length held
  pub short_enough : length held ≤ slot s t4

-- ---- the claim

-- what is promised of the list l of ticks that begins on o. A row is a part of the list, numbered from 1: where it breaks off, or the list
-- ends, before the tick named for it, there is no such part.
pub record Kept (o : Opening) (l : List Tick) : Type 0 where
  -- "on a record outside its limits every tick of the list is refused with 4", and none on another
  pub refused : All (λ t. t.refusal ≡ choose o.within 0 4) l
  -- "no tick has raise and lower on together"
  pub never_both : All (λ t. output 0 t ≡ 1 → output 1 t ≡ 1 → ⊥) l
  -- "and none begins a command whose mode or direction it blocks"
  pub unblocked : (d : Direction) → All (λ t. Begins d t → (output (mode_field t.contacts) t ≡ 0) × (output (block_field d) t ≡ 0)) l
  -- "in a row of waiting ticks to one side .. the command begins at the latest on the tick whose number is the longest of T1, T2 and T3"
  pub latest :
      (d : Direction) (pre front : List Tick) (t : Tick) (post : List Tick) → l ≡ pre ++ (front ++ (t ∷ post)) →
      All (Waiting d) front → Waiting d t → length front + 1 ≡ longest o.settings → Some (Begins d) (front ++ (t ∷ []))
  -- "and exactly on the one whose number is the delay in force if waiting began at zero and that delay does not change"
  pub exactly :
      (d : Direction) (n : ℕ) (pre front : List Tick) (t : Tick) (post : List Tick) → l ≡ pre ++ (front ++ (t ∷ post)) →
      BeganAtZero d o pre → All (Waiting d) front → Waiting d t → All (InForce d n) front → InForce d n t →
      Begins d t ↔ (length front + 1 ≡ n)
  -- "whenever the drive then closes its contact .., the next command, all else lasting, begins at most T5 + T4 + that longest delay ticks
  -- after the first". What lasts, lasts "up to the next command or the bound, whichever comes first". 02, ticket 2: "the bound between
  -- commands keeps to drives with the contact".
  pub again :
      (d : Direction) (pre : List Tick) (first : Tick) (row post : List Tick) → l ≡ pre ++ (first ∷ (row ++ post)) →
      slot o.settings continuous ≡ 0 →
      Begins d first → length row ≡ slot o.settings t5 + slot o.settings t4 + longest o.settings →
      (All (λ t. Command t → ⊥) row → All (Lasting d) row × Serves o.settings row) → Some Command row
