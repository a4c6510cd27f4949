-- The height h falls at each call.
use Rattle.tree_write.proofs.+nodes.Given as goal

abbrev pub decreases-nodes : goal.decreases-nodes
decreases-nodes l = l.h
