-- `dialogue::take_byte` meets its contract. Assumes nothing.
use Rattle.dialogue.proofs.FeedLaws.{byte_more, byte-whole}
use Rattle.dialogue.proofs.take_byte.Goals as goal

pub returns-in-More : goal.returns-in-More
returns-in-More c =
    let a = c.args in
    let g = c.gather in
    byte_more a.standing a.store.now a.line.now g.new.line a.out.now a.byte g.result c.requires.line_room g.ensures c.in-More.is

pub returns-in-Whole : goal.returns-in-Whole
returns-in-Whole c =
    let a = c.args in
    let g = c.gather in
    byte-whole a.standing a.store.now a.line.now g.new.line a.out.now a.byte g.result c.requires.line_room g.ensures
    c.in-Whole.is c.answer.ensures
