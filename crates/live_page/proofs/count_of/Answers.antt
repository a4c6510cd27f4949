-- `live_page::count_of` meets its contract. Assumes nothing.
use mathlib.Core.Path.{◌∙◌}
use native.Mathlib.Omega.{arith}
use Rattle.pages.proofs.Coding.{lies}
use Rattle.pages.proofs.SoundPage.{sum-small}
use Rattle.live_page.proofs.PageTree.{walk-told}
use Rattle.live_page.proofs.count_of.Goals as goal

pub walk-requires : goal.walk-requires
walk-requires c =
    let l = sum-small c.args.page.now.of_page in
    (lies c.code.result _ (omega arith) l, omega (arith, l))

pub unwrap-requires : goal.unwrap-requires
unwrap-requires c =
    let e = c.walk.ensures ∙ walk-told c.args.page.now.of_page c.code.ensures c.args.j 0 0 (omega arith) in
    grind arith

pub returns : goal.returns
returns c =
    let e = c.walk.ensures ∙ walk-told c.args.page.now.of_page c.code.ensures c.args.j 0 0 (omega arith) in
    grind arith
