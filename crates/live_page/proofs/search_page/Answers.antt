-- `live_page::search_page` meets its contract. Assumes nothing.
use mathlib.Core.Path.{◌∙◌}
use native.Mathlib.Omega.{arith}
use Rattle.pages.proofs.Coding.{lies}
use Rattle.pages.proofs.SoundPage.{sum-small}
use Rattle.live_page.proofs.PageTree.{search-told}
use Rattle.live_page.proofs.search_page.Goals as goal

pub search-requires : goal.search-requires
search-requires c =
    let l = sum-small c.args.page.now.of_page in
    (lies c.code.result _ (omega arith) l, omega (arith, l))

pub unwrap-requires : goal.unwrap-requires
unwrap-requires c =
    let e = c.search.ensures ∙ search-told c.args.page.now.of_page c.code.ensures c.args.q c.args.n c.requires.le_q.0 c.requires.le_q.1 in
    grind arith

pub returns : goal.returns
returns c =
    let e = c.search.ensures ∙ search-told c.args.page.now.of_page c.code.ensures c.args.q c.args.n c.requires.le_q.0 c.requires.le_q.1 in
    grind arith
