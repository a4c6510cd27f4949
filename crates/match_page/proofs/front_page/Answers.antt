-- `match_page::front_page` meets its contract. Assumes nothing.
use mathlib.Core.Path.{refl}
use native.Mathlib.Omega.{arith}
use Rattle.image_cursor.proofs.CursorLaws.{page-in, small}
use Rattle.match_page.proofs.PageLaws.{front-page-is, root-above}
use Rattle.match_page.proofs.front_page.Goals as goal

pub overflow_shr-p : goal.overflow_shr-p
overflow_shr-p c = omega (arith, small _ c.args.image.now.head_of c.args.image.now.accepted)

pub ahead-requires : goal.ahead-requires
ahead-requires c =
    let a = c.args.image.now in
    (small _ a.head_of a.accepted, a.head_of.hours-small, omega (arith, c.requires.starts.0))

pub page_root-requires : goal.page_root-requires
page_root-requires c = page-in _ c.args.image.now.head_of _ c.requires.starts.0

pub overflow_sub-result : goal.overflow_sub-result
overflow_sub-result c =
    let a = c.args.image.now in
    root-above _ a.accepted a.head_of _ _ _ c.page_root.ensures c.requires.before_value

pub returns : goal.returns
returns c =
    let a = c.args.image.now in
    let g = c.requires in
    (refl, front-page-is _ a.accepted a.head_of _ _ g.starts.0 g.starts.1 c.ahead.ensures _ _ c.page_root.ensures g.before_value _)
