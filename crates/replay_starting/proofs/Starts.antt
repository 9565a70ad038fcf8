-- The answer to a sheet, and the run of one that is taken.
-- Assumes nothing.
use Prim.Native.Nat.{ℕ, ◌+◌, ◌≤◌}
use mathlib.Core.Path.{◌≡◌, sym, ◌∙◌}
use mathlib.Core.Bool.{Bool, true, false}
use mathlib.Core.List.{List}
use native.Mathlib.Omega.{arith}
use lib.ListN.{length}
use Rattle.sheet.specs.Sheet.{is_taken}
use Rattle.std.specs.Prelude.{Result}
use Rattle.record.specs.declared.Regulator.{Regulator}
use Rattle.sheet.specs.declared.Refusal.{Refusal}
use Rattle.record_starting.specs.Starting.{replied_of, start_of}
use Rattle.recording_sheets.specs.SheetFile.{sheet_bytes, list_of}
use Rattle.replay_streamed.specs.declared.Ended.{Ended}
use Rattle.replay_streamed.specs.Streamed.{Replayed}
use Rattle.replay_starting.specs.Started.{Answered, RunFrom}

pub answered : (file : List ℕ) (s : Result Regulator Refusal) → length file ≤ sheet_bytes + 1 → replied_of s ≡ start_of (list_of file) → Answered s
answered file s h e = record { file = file; size = h; reply = e }
