-- `image_page::page_counts` meets its contract. Assumes nothing.
use native.Mathlib.Omega.{arith}
use Rattle.image_page.proofs.AcceptedPage.{accepted-page, sum-read}
use Rattle.image_page.proofs.page_counts.Goals as goal

pub overflow_sub-root : goal.overflow_sub-root
overflow_sub-root c =
    let g = accepted-page _ c.args.places.now.accepted c.args.p c.requires.0 in
    omega (arith, g.rises, c.root.ensures.bytes, c.before-2.ensures)

pub unpack-requires : goal.unpack-requires
unpack-requires c = (sum-read _ _ c.root.ensures.bytes c.before-2.ensures, c.requires.1)
