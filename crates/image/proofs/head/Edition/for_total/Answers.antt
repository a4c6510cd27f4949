-- `image::head::Edition::for_total` meets its contract. Assumes nothing.
use mathlib.Core.Path.{sym}
use borrow.Author.Tests.{le-ltb, lt-ltb}
use Rattle.image.specs.Image.{narrow_total, wide}
use Rattle.image.proofs.head.Edition.for_total.Goals as goal

pub returns-then-total-gt-NARROW_TOTAL : goal.returns-then-total-gt-NARROW_TOTAL
unfolding wide
returns-then-total-gt-NARROW_TOTAL c = sym (lt-ltb narrow_total _ c.if-total-gt-NARROW_TOTAL.true)

pub returns-else-total-gt-NARROW_TOTAL : goal.returns-else-total-gt-NARROW_TOTAL
unfolding wide
returns-else-total-gt-NARROW_TOTAL c = sym (le-ltb narrow_total _ c.if-total-gt-NARROW_TOTAL.false)
