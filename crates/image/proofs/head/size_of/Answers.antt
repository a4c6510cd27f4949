-- `image::head::size_of` meets its contract. Assumes nothing.
use Rattle.image.proofs.HeadLaws.{size-of-is}
use Rattle.image.proofs.head.size_of.Goals as goal

pub returns : goal.returns
returns c =
    let a = c.args in
    rw c.div_ceil.ensures (size-of-is a.e a.n a.l c.table_at.result c.pages_of.result a.table c.pages_of.ensures.0 c.table_at.ensures)
