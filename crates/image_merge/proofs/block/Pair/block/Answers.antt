-- `image_merge::block::Pair::block` meets its contract. Assumes nothing.
use Rattle.image_merge.proofs.BlockLaws.{summed}
use Rattle.image_merge.proofs.block.Pair.block.Goals as goal

pub returns : goal.returns
returns c = summed _ _ _ _ _ c.args.k c.add.array_long c.unpack.ensures c.unpack-2.ensures _ c.add.ensures
