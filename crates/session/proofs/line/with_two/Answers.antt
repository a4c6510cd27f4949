-- `session::line::with_two` meets its contract. Assumes nothing.
use mathlib.Core.Path.{sym}
use Rattle.lists.specs.Lists.{pick}
use Rattle.session.specs.Line.{none, one, two, by_letter}
use Rattle.session.proofs.LetterLaws.{two-other}
use Rattle.session.proofs.line.with_two.Goals as goal

pub returns-in-110 : goal.returns-in-110
unfolding by_letter none one two pick
returns-in-110 c = rw c.in-110.is

pub returns-in-115 : goal.returns-in-115
unfolding by_letter none one two pick
returns-in-115 c = rw c.in-115.is

pub returns-in_default : goal.returns-in_default
returns-in_default c =
    let r = c.in_default.in_default-own.rest in
    sym (two-other c.args.letter c.args.x c.args.y r.0.1 r.1)
