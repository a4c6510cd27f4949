-- `pages::sums::before` meets its contract: the first entries' sums are the prefix sum at a page's first hour. Assumes nothing.
use mathlib.Core.Path.{◌∙◌}
use native.Mathlib.Omega.{arith}
use Rattle.store.proofs.SoundFacts.{facts}
use Rattle.pages.proofs.Prefix.{sums-before}
use Rattle.pages.proofs.sums.before.Goals as goal

pub page_sums-requires : goal.page_sums-requires
page_sums-requires c =
    let f = facts c.args.s.bytes.now c.args.s.is_sound in
    omega (arith, f.pages-high, f.long, c.requires)

pub returns : goal.returns
returns c =
    c.page_sums.ensures ∙ sums-before c.args.s.bytes.now c.args.s.is_sound c.args.p c.requires
