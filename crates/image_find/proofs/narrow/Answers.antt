-- `image_find::narrow` meets its contract. Assumes nothing.
use native.Mathlib.Omega.{arith}
use Rattle.image.proofs.HeadLaws.{bounds}
use Rattle.image_find.proofs.SearchSteps.{narrow-bad, narrow-left, narrow-right}
use Rattle.image_find.proofs.narrow.Goals as goal

pub root_of-requires : goal.root_of-requires
root_of-requires c = omega (arith, c.requires.2, c.requires.0.inside)

pub returns-in_err-r : goal.returns-in_err-r
returns-in_err-r c =
    rw c.from_residual.ensures (narrow-bad c.args.image.now.opened c.requires.0 c.requires.1 c.requires.2 c.in_err-r.ensures)

pub returns-then-q-r : goal.returns-then-q-r
returns-then-q-r c = narrow-left c.args.image.now.opened c.requires.0 c.requires.1 c.requires.2 c.in_ok-r.ensures c.if-q-r.true

pub overflow_add-result : goal.overflow_add-result
overflow_add-result c = omega (arith, c.requires.2, c.requires.0.inside, (bounds _ _ c.args.image.now.opened).few)

pub returns : goal.returns
returns c = narrow-right c.args.image.now.opened c.requires.0 c.requires.1 c.requires.2 c.in_ok-r.ensures c.if-q-r.false
