use borrow.Author.Rules.{rules}
use Rattle.sheet.proofs.Answers.{wrong_length_lem, right_refused, right_taken}
use Rattle.sheet.proofs.Exact.{checked}
use Rattle.sheet_judging.proofs.check_sheet.Goals as goal

pub returns-in_default : goal.returns-in_default
returns-in_default c =
    let a = checked _ (wrong_length_lem _ (search rules)) in
    record { each = a.0; returned = a.1.0; exactly = a.1.1 }

pub returns-in_err-judge : goal.returns-in_err-judge
returns-in_err-judge c =
    let a = checked _ (right_refused _ (search rules) (search rules) c.judge.ensures c.in_err-judge.was (search rules)) in
    record { each = a.0; returned = a.1.0; exactly = a.1.1 }

pub returns : goal.returns
returns c =
    let a = checked _ (right_taken _ (search rules) (search rules) c.judge.ensures c.in_ok-judge.was) in
    record { each = a.0; returned = a.1.0; exactly = a.1.1 }
