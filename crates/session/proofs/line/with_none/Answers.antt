-- `session::line::with_none` meets its contract. Assumes nothing.
use mathlib.Core.Path.{sym}
use Rattle.lists.specs.Lists.{pick}
use Rattle.session.specs.Line.{none, one, two, by_letter}
use Rattle.session.proofs.LetterLaws.{none_other}
use Rattle.session.proofs.line.with_none.Goals as goal

pub returns-in-102 : goal.returns-in-102
unfolding by_letter none one two pick
returns-in-102 c = rw c.in-102.is

pub returns-in_default : goal.returns-in_default
returns-in_default c = sym (none_other c.args.letter c.in_default.in_default-own.rest.1)
