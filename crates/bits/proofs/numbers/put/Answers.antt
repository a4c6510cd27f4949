-- `bits::numbers::put` meets its contract. Assumes nothing.
use Rattle.std.proofs.Common.{ap, arith, take, ◌∙◌}
use Rattle.lists.proofs.Parts.{put_mid-splice}
use Rattle.bits.proofs.Little.{length-little, low}
use Rattle.bits.proofs.numbers.put.Goals as goal

pub returns : goal.returns
returns g c = let n = g.row.N in
    put_mid-splice _ _ _ _ _ (c.copy_from_slice.ensures.after ∙ ap (take n) c.to_le_bytes.ensures ∙ low n c.args.v c.requires.width)
    (omega (arith, length-little n c.args.v))
