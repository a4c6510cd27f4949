-- The height h falls at each call.
use Rattle.tree_decode.proofs.+decode_node.Given as goal

abbrev pub decreases-decode_node : goal.decreases-decode_node
decreases-decode_node l = l.h
