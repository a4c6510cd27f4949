-- `session::line::single` meets its contract. Assumes nothing.
use Rattle.std.proofs.Common.{◌∙◌}
use Rattle.session.proofs.LetterLaws.{single-wrong}
use Rattle.session.proofs.line.single.Goals as goal

pub returns-in_err-number : goal.returns-in_err-number
returns-in_err-number c = c.from_residual.ensures ∙ single-wrong _ c.in_err-number.was c.number.ensures
