-- `recording_sheets::start` meets its contract.
-- Assumes nothing.
use Rattle.recording_sheets.proofs.Starts.{start_whole, start_other, refused}
use Rattle.recording_sheets.proofs.start.Goals as goal

pub returns-in-Some : goal.returns-in-Some
returns-in-Some c =
    let p = refused c.args.bytes.now c.start.result (start_whole _ c.decode_sheet.ensures c.in-Some.is c.start.ensures.reply) in
    record { reply = p.0; refused = p.1 }

pub returns-in-None : goal.returns-in-None
returns-in-None c =
    let p = refused c.args.bytes.now c.start-in-None.result (start_other _ c.decode_sheet.ensures c.in-None.is c.start-in-None.ensures.reply) in
    record { reply = p.0; refused = p.1 }
