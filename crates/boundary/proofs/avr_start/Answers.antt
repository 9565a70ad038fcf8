-- `boundary::avr_start` meets its contract, by what each call ensures. Assumes nothing.
use borrow.Author.Rules.{rules}
use Rattle.boundary.proofs.Starts.{started_exactly, started_lasts, started_made}
use Rattle.boundary.proofs.avr_start.Goals as goal

pub returns : goal.returns
returns c = record { reply = search (rules, started_made); exactly = search (rules, started_exactly); lasting = search (rules, started_lasts) }
