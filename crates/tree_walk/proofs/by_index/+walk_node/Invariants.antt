-- The height h falls at each call.
use Rattle.tree_walk.proofs.by_index.+walk_node.Given as goal

abbrev pub decreases-walk_node : goal.decreases-walk_node
decreases-walk_node l = l.h
