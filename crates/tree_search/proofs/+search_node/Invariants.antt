-- The height h falls at each call.
use Rattle.tree_search.proofs.+search_node.Given as goal

abbrev pub decreases-search_node : goal.decreases-search_node
decreases-search_node l = l.h
