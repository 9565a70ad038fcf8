-- What a run over the bytes of a recording gives: for each tick in order, up to one that cannot be decoded, a line of its outputs.
-- Definitions only.
use Rattle.std.specs.Prelude.{ℕ, zero, suc, ◌+◌, ◌*◌, List, [], ◌++◌, Option, None, Some, Result, Ok, Err, length, take}
use Rattle.input.specs.declared.Input.{Input}
use Rattle.record.specs.declared.Regulator.{Regulator}
use Rattle.recording_ticks.specs.declared.DecodeError.{DecodeError}
use Rattle.showing.specs.Showing.{field_count}
use Rattle.recording_lines.specs.Lines.{widest, line_of, placed}
use Rattle.recording_ticks.specs.Recorded.{tick_bytes, decoded_of}
use Rattle.rules.specs.Ticks.{outputs_in, tick_of}
use Rattle.replay_playing.specs.declared.Stepped.{Stepped}

-- the record after some ticks, the bytes that they took, and their lines
pub record Played : Type 0 where
  pub state : Regulator
  pub done : ℕ
  pub text : List ℕ

-- room for a tick's line
abbrev pub line_room : ℕ
line_room = field_count * widest

-- the line of a tick
abbrev pub line_at : Regulator → Input → List ℕ
line_at r i = line_of (outputs_in (tick_of r i).reply)

-- one tick more
abbrev pub played_on : Played → Input → Played
played_on p i = record { state = (tick_of p.state i).next; done = p.done + tick_bytes; text = p.text ++ line_at p.state i }

abbrev pub on_tick : Result Input DecodeError → (Input → Played) → Played → Played
on_tick (Ok i) f p = f i
on_tick (Err e) f p = p

-- at most n ticks more
unfoldable pub play_from : ℕ → List ℕ → Played → Played
play_from zero bytes p = p
play_from (suc n) bytes p = on_tick (decoded_of bytes p.done) (λ i. play_from n bytes (played_on p i)) p

-- all of them: there are no more ticks than bytes
unfoldable pub played_of : Regulator → List ℕ → Played
played_of r bytes = play_from (length bytes) bytes (record { state = r; done = 0; text = [] })

-- what was played, by the record, the bytes and the end of the lines
abbrev pub played_to : Regulator → ℕ → ℕ → List ℕ → Played
played_to r done end lines = record { state = r; done = done; text = take end lines }

-- a second part, played after a first
abbrev pub played_after : Played → Played → Played
played_after p q = record { state = q.state; done = p.done + q.done; text = p.text ++ q.text }

-- after the tick at a place, if there is one, its line put at the end of the lines
abbrev pub step_of : Result Input DecodeError → Regulator → ℕ → Option Stepped
step_of (Ok i) r end = Some (record { next = (tick_of r i).next; end = end + length (line_at r i) })
step_of (Err e) r end = None

abbrev pub lines_of : Result Input DecodeError → Regulator → List ℕ → ℕ → List ℕ
lines_of (Ok i) r lines end = placed lines end (line_at r i)
lines_of (Err e) r lines end = lines
