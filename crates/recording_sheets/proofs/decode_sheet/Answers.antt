-- `recording_sheets::decode_sheet` meets its contract.
-- Assumes nothing.
use Rattle.recording_sheets.proofs.Starts.{not_whole, whole}
use borrow.Author.Rules.{rules}
use Rattle.recording_sheets.proofs.decode_sheet.Goals as goal

pub returns-then-bytes-ne-SHEET : goal.returns-then-bytes-ne-SHEET
returns-then-bytes-ne-SHEET c = search (rules, not_whole)

pub returns : goal.returns
returns c = search (rules, whole)
