-- `image_put::blocks::put_blocks` meets its contract. Assumes nothing.
use native.Mathlib.Omega.{arith}
use Rattle.image_put.proofs.BlockByBlock.{blocked, placed}
use Rattle.image_put.proofs.blocks.put_blocks.Goals as goal

pub loop-k-init : goal.loop-k-init
loop-k-init g c = record {
  laid = c.begin-at.ensures.1 (record { xs = g.B.Blocks.list c.args.source.now; room = c.requires });
  at = omega (arith, c.begin-at.ensures.0);
}

pub block-requires : goal.block-requires
block-requires g c = omega (arith, c.loop-k-test.true, c.div_ceil-k-end.ensures, c.requires.layout.hours-are)

pub put_block-at-requires : goal.put_block-at-requires
put_block-at-requires g c =
    let i = c.loop-k.invariant in
    blocked c.loop-k.k i.laid i.at (omega (arith, c.loop-k-test.true, c.div_ceil-k-end.ensures)) c.block.ensures

pub loop-k-preserved : goal.loop-k-preserved
loop-k-preserved g c =
    let i = c.loop-k.invariant in
    record {
      laid = c.put_block-at.ensures.1 (blocked c.loop-k.k i.laid i.at (omega (arith, c.loop-k-test.true, c.div_ceil-k-end.ensures)) c.block.ensures);
      at = c.put_block-at.ensures.0;
    }

pub end-requires : goal.end-requires
end-requires g c = placed c.loop-k.k c.loop-k.invariant.laid c.loop-k.invariant.at (omega (arith, c.loop-k-test.false, c.div_ceil-k-end.ensures))

pub returns : goal.returns
returns g c =
    c.end.ensures (placed c.loop-k.k c.loop-k.invariant.laid c.loop-k.invariant.at (omega (arith, c.loop-k-test.false, c.div_ceil-k-end.ensures)))
