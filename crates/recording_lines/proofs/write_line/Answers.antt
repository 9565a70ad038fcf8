use borrow.Author.Rules.{rules}
use native.Mathlib.Omega.{arith}
use Rattle.recording_lines.proofs.Texts.{unwritten, line_written, line_end, line_within}
use Rattle.recording_lines.proofs.write_line.Goals as goal

pub returns-then-out-at-clause-text : goal.returns-then-out-at-clause-text
returns-then-out-at-clause-text c = (unwritten _ _ _ (omega arith)).0

pub returns-then-out-at-clause-end : goal.returns-then-out-at-clause-end
returns-then-out-at-clause-end c = (unwritten c.args.numbers.now c.args.out.now c.args.at (omega arith)).1.0

pub returns : goal.returns
returns c = search (rules, line_written, line_end, line_within)
