-- `session::line::with_numbers` meets its contract. Assumes nothing.
use Rattle.std.proofs.Common.{sym, ◌∙◌}
use Rattle.session.proofs.LineLaws.{numbers-one, numbers-two}
use Rattle.session.proofs.line.with_numbers.Goals as goal

pub returns-in-None : goal.returns-in-None
returns-in-None c = c.single.ensures ∙ sym (numbers-one c.args.letter c.args.rest.now c.in-None.ensures.none)

pub returns-in-Some : goal.returns-in-Some
returns-in-Some c =
    let f = c.in-Some.ensures in
    c.pair.ensures ∙ sym (numbers-two c.args.letter c.args.rest.now c.in-Some.k f.found.0 f.before f.found.1)
