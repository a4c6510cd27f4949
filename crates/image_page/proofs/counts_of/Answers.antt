-- `image_page::counts_of` meets its contract. Assumes nothing.
use Rattle.std.proofs.Common.{rules}
use Rattle.image_page.proofs.AcceptedPage.{page-room}
use Rattle.image_page.proofs.counts_of.Goals as goal

pub unpack-requires : goal.unpack-requires
unpack-requires c =
    let i = c.places_of.result in
    (search rules, page-room _ i.accepted i.page)
