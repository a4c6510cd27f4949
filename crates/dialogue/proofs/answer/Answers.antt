-- `dialogue::answer` meets its contract. Assumes nothing.
use Rattle.dialogue.proofs.FeedLaws.{answers}
use Rattle.dialogue.proofs.answer.Goals as goal

pub returns : goal.returns
returns c =
    answers c.requires.out_room c.respond-response.ensures c.print-said.ensures
