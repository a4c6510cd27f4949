-- `dialogue::feed` meets its contract. Assumes nothing.
use Rattle.std.proofs.Common.{rules}
use Rattle.dialogue.specs.Dialogue.{fed, said}
use Rattle.dialogue.proofs.FeedLaws.{feeds-turn}
use Rattle.dialogue.proofs.feed.Goals as goal

pub loop-byte-init : goal.loop-byte-init
unfolding fed said
loop-byte-init c = search rules

pub loop-byte-preserved : goal.loop-byte-preserved
loop-byte-preserved c = (search rules, search rules, search rules, feeds-turn _ _ c.loop-byte-test.true c.loop-byte.invariant.3 c.take_byte-next.ensures)
