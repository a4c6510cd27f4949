-- The height h falls at each call.
use Rattle.tree_whole.proofs.+decode_word.Given as goal

abbrev pub decreases-decode_word : goal.decreases-decode_word
decreases-decode_word l = l.h
