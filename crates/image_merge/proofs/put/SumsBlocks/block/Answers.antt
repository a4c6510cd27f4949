-- `image_merge::put::SumsBlocks::block` meets its contract. Assumes nothing.
use mathlib.Core.Path.{refl}
use native.Mathlib.Omega.{arith}
use Rattle.image_merge.proofs.BlockLaws.{all-counts}
use Rattle.image_merge.proofs.PlanLaws.{hours-are}
use Rattle.image_merge.proofs.put.SumsBlocks.block.Goals as goal

pub block-requires : goal.block-requires
block-requires c =
    let h = hours-are c.args.self.now.pair.now _ refl in
    omega (arith, c.requires, h.0, h.1)

pub unwrap-requires : goal.unwrap-requires
unwrap-requires c = rw (all-counts _ _ _ _ c.block.ensures c.args.self.now.counts) refl

pub returns : goal.returns
returns c =
    let q = all-counts _ _ _ _ c.block.ensures c.args.self.now.counts in
    let s = rw q at c.block.ensures in
    s.0
