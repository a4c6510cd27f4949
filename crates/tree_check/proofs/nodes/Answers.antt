-- `tree_check::nodes` meets its contract. Assumes nothing.
use Rattle.tree_check.proofs.CheckSteps.{exact-leaf}
use Rattle.tree_check.proofs.nodes.Goals as goal

pub returns-then-h-eq0 : goal.returns-then-h-eq0
returns-then-h-eq0 c = exact-leaf _ _ _ _ c.if-h-eq0.true
