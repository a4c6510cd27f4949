-- `tree::node::root_by_shifts` meets its contract. Assumes nothing.
use native.Mathlib.Omega.{arith}
use Rattle.tree.proofs.Rooting.{halves, left-sum, rooted}
use Rattle.tree.proofs.node.root_by_shifts.Goals as goal

pub first-requires : goal.first-requires
first-requires c = omega (arith, c.digits_of-t.ensures, halves 0 c.requires (omega arith))

pub returns : goal.returns
returns c = rooted _ _ _ _ _ (left-sum _ _ _ _ _ c.digits_of-t.ensures c.first.ensures) c.node.ensures
