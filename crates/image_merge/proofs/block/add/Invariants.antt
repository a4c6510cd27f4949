-- `image_merge::block::add` meets its contract. Assumes nothing.
use Rattle.image_merge.proofs.BlockLaws.{Adding}
use Rattle.image_merge.proofs.block.add.Given as goal

abbrev pub invariant-loop-i : goal.invariant-loop-i
invariant-loop-i l = Adding l.fn.counts l.more l.counts l.i
