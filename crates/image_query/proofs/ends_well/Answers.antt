-- `image_query::ends_well` meets its contract. Assumes nothing.
use native.Mathlib.Omega.{arith}
use borrow.Author.Tests.{le-leb}
use Rattle.image_query.proofs.LookSteps.{ends_by, ends-few}
use Rattle.image_query.proofs.ends_well.Goals as goal

pub returns-then-page-le-MAX_COUNT : goal.returns-then-page-le-MAX_COUNT
returns-then-page-le-MAX_COUNT c =
    rw (le-leb _ _ c.if-page-le-MAX_COUNT.true) (ends-few c.args.i c.args.image.now.opened c.requires c.if-page-le-MAX_COUNT.true)

pub returns-else-page-le-MAX_COUNT : goal.returns-else-page-le-MAX_COUNT
returns-else-page-le-MAX_COUNT c = ends_by _ c.look_in.ensures (λ n e. grind arith)
