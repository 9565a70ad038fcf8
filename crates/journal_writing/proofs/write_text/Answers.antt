-- `journal_writing::write_text` meets its contract.
-- Assumes nothing.
use Rattle.std.proofs.Common.{rules}
use Rattle.journal.proofs.Puts.{unwritten_answer, wrote_both}
use Rattle.journal_writing.proofs.write_text.Goals as goal

pub returns-then-not-fits-clause-answer : goal.returns-then-not-fits-clause-answer
returns-then-not-fits-clause-answer c =
    unwritten_answer _ c.args.buffer.now c.check_list.ensures c.map_err.ensures.variant c.in_ok-map_err.was c.fits.ensures search rules

pub returns-clause-answer : goal.returns-clause-answer
returns-clause-answer c =
    (wrote_both _ c.args.buffer.now c.check_list.ensures c.map_err.ensures.variant c.in_ok-map_err.was c.fits.ensures (search rules) c.put_list.ensures).0

pub returns-clause-text : goal.returns-clause-text
returns-clause-text c =
    (wrote_both _ c.args.buffer.now c.check_list.ensures c.map_err.ensures.variant c.in_ok-map_err.was c.fits.ensures (search rules) c.put_list.ensures).1
