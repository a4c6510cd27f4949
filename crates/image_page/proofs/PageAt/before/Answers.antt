-- `image_page::PageAt::before` meets its contract. Assumes nothing.
use mathlib.Core.Path.{◌∙◌}
use native.Mathlib.Omega.{arith}
use Rattle.image_page.proofs.AcceptedPage.{before-first, before-next}
use Rattle.image_page.proofs.PageAt.before.Goals as goal

pub returns-then-self-eq0 : goal.returns-then-self-eq0
returns-then-self-eq0 c = before-first _ _ c.if-self-eq0.true

pub returns : goal.returns
returns c = c.root.ensures.bytes ∙ before-next _ _ (omega (arith, c.if-self-eq0.false))
