use borrow.Author.Rules.{rules}
use Rattle.recording_lines.proofs.Texts.{one_digit, more_digits, one_fits, fewer_fit, last_fits}
use Rattle.recording_lines.proofs.+put_number.Goals as goal

pub put-requires : goal.put-requires
put-requires t c = search (rules, one_fits)

pub returns-then-n-lt10 : goal.returns-then-n-lt10
returns-then-n-lt10 t c = search (rules, one_digit)

pub put_number-end-requires : goal.put_number-end-requires
put_number-end-requires t c = (search rules, search (rules, fewer_fit))

pub put-requires-2 : goal.put-requires-2
put-requires-2 t c = search (rules, last_fits)

pub returns : goal.returns
returns t c = search (rules, more_digits)
