-- What a run gives whose sheet and recording are files: the answer to the sheet, and the recording run from the record that it gave.
-- Definitions only.
use Rattle.std.specs.Prelude.{ℕ, ◌+◌, ◌≤◌, ◌≡◌, false, List, length, Result}
use Rattle.sheet.specs.Sheet.{is_taken}
use Rattle.record.specs.declared.Regulator.{Regulator}
use Rattle.sheet.specs.declared.Refusal.{Refusal}
use Rattle.record_starting.specs.Starting.{record_of, replied_of, start_of}
use Rattle.recording_sheets.specs.SheetFile.{sheet_bytes, list_of}
use Rattle.replay_streamed.specs.declared.Ended.{Ended}
use Rattle.replay_streamed.specs.Streamed.{Replayed}

-- the reply to a sheet's file, of which some bytes were read
pub record Answered (s : Result Regulator Refusal) : Type 0 where
  pub file : List ℕ
  pub size : length file ≤ sheet_bytes + 1
  pub reply : replied_of s ≡ start_of (list_of file)

-- the recording is run from the record that the sheet gave; where the sheet is refused, nothing is read of it
pub record RunFrom (s : Result Regulator Refusal) (e : Ended) : Type 0 where
  pub ran : Replayed (record_of s) e
  pub refused : is_taken s ≡ false → e.offset + e.got ≡ 0
