-- The height h falls at each call.
use Rattle.tree_narrow.proofs.+narrow_node.Given as goal

abbrev pub decreases-narrow_node : goal.decreases-narrow_node
decreases-narrow_node l = l.h
