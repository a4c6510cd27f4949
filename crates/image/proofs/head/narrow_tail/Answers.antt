-- `image::head::narrow_tail` meets its contract. Assumes nothing.
use Rattle.image.proofs.TailLaws.{narrow-read}
use Rattle.image.proofs.head.narrow_tail.Goals as goal

pub returns : goal.returns
returns c =
    narrow-read c.args.s.now c.requires.0 c.requires.1 c.get-total.ensures c.get-bits.ensures
