-- `match_page::mark_page` meets its contract. Assumes nothing.
use native.Mathlib.Omega.{arith}
use Rattle.image_cursor.proofs.CursorLaws.{page-in, page-small as pages-small, ready_read, small}
use Rattle.match_page.proofs.PageLaws.{counts-small, held}
use Rattle.match_page.proofs.mark_page.Goals as goal

pub overflow_shr-p : goal.overflow_shr-p
overflow_shr-p c = omega (arith, small _ c.args.image.now.head_of c.args.image.now.accepted)

pub counts_of-requires : goal.counts_of-requires
counts_of-requires c = (page-in _ c.args.image.now.head_of _ c.requires.logged, c.requires.sum-of)

pub shared_ref_as_front-mark : goal.shared_ref_as_front-mark
shared_ref_as_front-mark c =
    omega (arith, c.requires.whole.room, pages-small _ c.args.image.now.head_of c.args.image.now.accepted, c.counts_of.array_long)

pub mark-requires : goal.mark-requires
mark-requires c =
    let a = c.args.image.now in
    let r = ready_read _ a.head_of a.accepted c.args.page.first _ _ c.told-counts c.counts_of.ensures in
    counts-small _ a.accepted a.head_of _ _ c.requires.run_is (held _ a.accepted a.head_of _ _ c.requires r)

pub returns : goal.returns
returns c =
    let a = c.args.image.now in
    let r = ready_read _ a.head_of a.accepted c.args.page.first _ _ c.told-counts c.counts_of.ensures in
    record { counts-are = held _ a.accepted a.head_of _ _ c.requires r; marked = c.mark.ensures }
