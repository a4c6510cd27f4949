-- `dialogue::close` meets its contract. Assumes nothing.
use Rattle.dialogue.proofs.FeedLaws.{close-none, close-whole}
use Rattle.dialogue.proofs.close.Goals as goal

pub returns-in_default : goal.returns-in_default
returns-in_default c =
    let a = c.args in
    close-none a.standing a.store.now a.line.now _ c.finish.ensures _ c.in_default.is

pub returns : goal.returns
returns c =
    let a = c.args in
    close-whole a.standing a.store.now a.line.now _ c.finish.ensures c.in-Some.is c.answer-there.ensures
