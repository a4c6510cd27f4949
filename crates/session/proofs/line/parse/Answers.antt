-- `session::line::parse` meets its contract. Assumes nothing.
use Rattle.std.proofs.Common.{sym, ◌∙◌, arith}
use Rattle.session.proofs.LineLaws.{command-long, command-empty, command-alone, command-worded, command-spaced}
use Rattle.session.proofs.line.parse.Goals as goal

pub returns-then-line-gt40 : goal.returns-then-line-gt40
returns-then-line-gt40 c = sym (command-long c.args.line.now c.if-line-gt40.true)

pub returns-in-len1 : goal.returns-in-len1
returns-in-len1 c = c.with_none.ensures ∙ sym (command-alone c.args.line.now (omega arith))

pub returns-in-32 : goal.returns-in-32
returns-in-32 c = c.with_numbers.ensures ∙ sym (command-spaced c.args.line.now (omega arith) (omega arith) (omega arith))

pub returns-in_default : goal.returns-in_default
returns-in_default c = sym (command-empty c.args.line.now (omega arith))

pub returns-in_default-2 : goal.returns-in_default-2
returns-in_default-2 c = sym (command-worded c.args.line.now (omega arith) (omega arith) (λ e. omega arith))
