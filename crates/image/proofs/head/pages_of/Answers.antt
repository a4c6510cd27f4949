-- `image::head::pages_of` meets its contract. Assumes nothing.
use Rattle.image.proofs.HeadLaws.{pages-of-is}
use Rattle.image.proofs.head.pages_of.Goals as goal

pub returns : goal.returns
returns c = rw c.div_ceil.ensures (pages-of-is c.args.e c.args.n c.power.result c.power.ensures)
