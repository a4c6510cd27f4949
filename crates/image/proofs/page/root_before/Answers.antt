-- `image::page::root_before` meets its contract. Assumes nothing.
use native.Mathlib.Omega.{arith}
use Rattle.image.proofs.RootLaws.{before-bad, before-first, before-next}
use Rattle.image.proofs.page.root_before.Goals as goal

pub returns-then-p-eq0 : goal.returns-then-p-eq0
returns-then-p-eq0 c = before-first _ c.args.p c.if-p-eq0.true

pub returns-in_err-root_of : goal.returns-in_err-root_of
returns-in_err-root_of c =
    rw c.from_residual.ensures (before-bad _ c.args.p (omega (arith, c.if-p-eq0.false)) (rw c.in_err-root_of.was at c.root_of.ensures))

pub returns : goal.returns
returns c =
    before-next _ c.args.p _ (omega (arith, c.if-p-eq0.false)) (rw c.in_ok-root_of.was at c.root_of.ensures)
