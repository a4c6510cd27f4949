-- Trees of counts with a limit. Assumes nothing.
use Rattle.std.specs.Prelude.{Bool, ◌&&◌, List, ℕ}
use Rattle.lists.specs.Counts.{within}
use Rattle.tree.specs.Read.{counts}
use Rattle.tree.specs.Code.Exact.{exact}

-- a tree of 2^h counts with sum s from bit a on is the code of some list, and none of its counts is above the limit
unfoldable pub narrow : ℕ → ℕ → ℕ → List ℕ → ℕ → Bool
narrow widest h s b a = exact h s b a && within widest (counts h s b a)
