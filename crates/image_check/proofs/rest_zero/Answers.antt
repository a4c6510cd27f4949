-- `image_check::rest_zero` meets its contract. Assumes nothing.
use native.Mathlib.Omega.{arith}
use Rattle.image_test.proofs.CheckSteps.{rest-none, rest_some}
use Rattle.image_check.proofs.rest_zero.Goals as goal

pub returns-then-head-eq0 : goal.returns-then-head-eq0
returns-then-head-eq0 c = rest-none _ _ c.args.image.now.opened c.if-head-eq0.true

pub returns : goal.returns
returns c = rest_some _ _ c.args.image.now.opened c.if-head-eq0.false c.look.ensures (λ e. grind arith) (λ n e. grind arith)
