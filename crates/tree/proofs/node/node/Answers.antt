-- `tree::node::node` meets its contract. Assumes nothing.
use native.Mathlib.Omega.{arith}
use Rattle.tree.proofs.Rooting.{left-fits}
use Rattle.tree.proofs.node.node.Goals as goal

pub overflow_add-second : goal.overflow_add-second
overflow_add-second c =
    omega (arith, left-fits c.args.at c.args.h c.args.s c.args.left c.if-s-left.false, c.requires, c.reserve_of.ensures)
