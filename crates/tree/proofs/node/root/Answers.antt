-- `tree::node::root` meets its contract. Assumes nothing.
use native.Mathlib.Omega.{arith}
use Rattle.tree.proofs.Rooting.{halves, left-sum, rooted}
use Rattle.tree.proofs.node.root.Goals as goal

pub get_field-requires-clause-width_bound : goal.get_field-requires-clause-width_bound
get_field-requires-clause-width_bound c = omega (arith, halves 0 c.requires (omega arith), c.digits_of-t.ensures)

pub returns : goal.returns
returns c = rooted _ _ _ _ _ (left-sum _ _ _ _ _ c.digits_of-t.ensures c.get_field.ensures) c.node.ensures
