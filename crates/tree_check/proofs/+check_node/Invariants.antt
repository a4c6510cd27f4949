-- The height h falls at each call.
use Rattle.tree_check.proofs.+check_node.Given as goal

abbrev pub decreases-check_node : goal.decreases-check_node
decreases-check_node l = l.h
