-- `image_query::look` meets its contract. Assumes nothing.
use Rattle.std.specs.Int.{from_bool}
use Rattle.image_query.proofs.LookSteps.{look-bad, look-between, look-page}
use Rattle.image_query.proofs.look.Goals as goal

pub root_of-requires : goal.root_of-requires
root_of-requires c = look-page _ _ c.args.image.now.opened c.args.i 0 c.page_with-p.ensures c.requires

pub root_before-requires : goal.root_before-requires
root_before-requires c = look-page _ _ c.args.image.now.opened c.args.i 0 c.page_with-p.ensures c.requires

pub look_in-requires : goal.look_in-requires
look_in-requires c =
    let b = look-between _ _ c.args.image.now.opened c.args.i 0 _ _ c.page_between.result c.page_with-p.ensures c.root_of.ensures c.root_before.ensures
    c.page_between.ensures in
    rw c.in_ok-page.was at b

pub returns-in_err-page : goal.returns-in_err-page
returns-in_err-page c =
    let b = look-between _ _ c.args.image.now.opened c.args.i 0 _ _ c.page_between.result c.page_with-p.ensures c.root_of.ensures c.root_before.ensures
    c.page_between.ensures in
    rw c.from_residual.ensures (look-bad _ _ c.args.image.now.opened c.args.i (from_bool c.args.keep) (rw c.in_err-page.was at b))
