use borrow.Author.Rules.{rules}
use Rattle.record_starting.proofs.Starts.{start_taken, start_refused, started}
use Rattle.record_starting.proofs.start.Goals as goal

pub returns-in_err-settings : goal.returns-in_err-settings
returns-in_err-settings c =
    let k = c.check_sheet.ensures in
    let a = started _ c.check_sheet.result (start_refused _ _ _ c.in_err-settings.was (search rules)) k.each k.returned k.exactly in
    record { reply = a.0; exactly = a.1.0; lasting = a.1.1 }

pub returns : goal.returns
returns c =
    let k = c.check_sheet.ensures in
    let a = started _ c.check_sheet.result (start_taken _ _ _ c.in_ok-settings.was c.fresh.ensures) k.each k.returned k.exactly in
    record { reply = a.0; exactly = a.1.0; lasting = a.1.1 }
