-- `move_pages::pass_page` meets its contract. Assumes nothing.
use Rattle.move_pages.proofs.PassSteps.{coming-asks, due-at, due-no, due-yes, movable, moves-on, stays_at}
use Rattle.move_pages.proofs.pass_page.Goals as goal

pub returns-then-late-old : goal.returns-then-late-old
returns-then-late-old c z h e =
    stays_at h c.args.late c.requires.1 c.requires.2 e c.from-old.ensures c.from-new.ensures (due-no c.args.late _ _ c.if-late-old.true)

pub near-requires : goal.near-requires
near-requires c = c.requires.0.1.shiftable.within

pub coming-requires : goal.coming-requires
coming-requires c =
    coming-asks c.requires.0.1 c.args.p c.requires.1 c.requires.2

pub move_page-requires : goal.move_page-requires
move_page-requires c =
    let h = c.requires.0.1 in
    let d = due-at h c.args.late c.requires.1 c.requires.2 c.requires.0.2 c.from-old.ensures c.from-new.ensures (due-yes c.args.late _ _ c.if-late-old.false) in
    movable h c.args.late c.requires.1 c.requires.2 c.requires.0.2 d c.near.ensures.0 c.coming.ensures c.from-old.ensures
    c.from-new.ensures

pub returns : goal.returns
returns c z h e =
    let d = due-at h c.args.late c.requires.1 c.requires.2 e c.from-old.ensures c.from-new.ensures (due-yes c.args.late _ _ c.if-late-old.false) in
    moves-on h c.args.late c.requires.1 c.requires.2 e d c.near.ensures.0 c.coming.ensures c.from-old.ensures c.from-new.ensures
    c.move_page.ensures
