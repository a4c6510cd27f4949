-- `session::line::pair` meets its contract. Assumes nothing.
use Rattle.std.proofs.Common.{◌∙◌}
use Rattle.session.proofs.LetterLaws.{first-wrong, second-wrong}
use Rattle.session.proofs.line.pair.Goals as goal

pub returns-in_err-number : goal.returns-in_err-number
returns-in_err-number c = c.from_residual.ensures ∙ first-wrong _ _ c.in_err-number.was c.number.ensures

pub returns-in_err-number-2 : goal.returns-in_err-number-2
returns-in_err-number-2 c = c.from_residual-in_err-number-2.ensures ∙ second-wrong _ _ c.in_err-number-2.was c.number-2.ensures
