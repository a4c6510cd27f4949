-- `session::line::with_one` meets its contract. Assumes nothing.
use mathlib.Core.Path.{sym}
use Rattle.lists.specs.Lists.{pick}
use Rattle.session.specs.Line.{none, one, two, by_letter}
use Rattle.session.proofs.LetterLaws.{one-other}
use Rattle.session.proofs.line.with_one.Goals as goal

pub returns-in-97 : goal.returns-in-97
unfolding by_letter none one two pick
returns-in-97 c = rw c.in-97.is

pub returns-in-103 : goal.returns-in-103
unfolding by_letter none one two pick
returns-in-103 c = rw c.in-103.is

pub returns-in-114 : goal.returns-in-114
unfolding by_letter none one two pick
returns-in-114 c = rw c.in-114.is

pub returns-in-119 : goal.returns-in-119
unfolding by_letter none one two pick
returns-in-119 c = rw c.in-119.is

pub returns-in-100 : goal.returns-in-100
unfolding by_letter none one two pick
returns-in-100 c = rw c.in-100.is

pub returns-in_default : goal.returns-in_default
returns-in_default c =
    let r = c.in_default.in_default-own.rest in
    sym (one-other c.args.letter c.args.x r.0.0.0.0.1 r.0.0.0.1 r.0.0.1 r.0.1 r.1)
