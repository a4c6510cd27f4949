-- A tree that is decoded. Assumes nothing.
use Rattle.std.specs.Prelude.{true, List, ◌≡◌, ℕ}
use Rattle.lists.specs.Counts.{max_count, within}
use Rattle.bits.specs.Bits.{bits}
use Rattle.tree.specs.Read.{counts}
use Rattle.tree.specs.Code.Exact.{exact}
use Rattle.tree.specs.Code.Node.{Lies}

-- the tree of 2^h counts with sum s at bit a of b: some list's code, with no count above the limit
pub record Coded (h : ℕ) (b : List ℕ) (a s : ℕ) : Type 0 where
  pub lies : Lies b a h s
  pub code : exact h s (bits b) a ≡ true
  pub fits : within max_count (counts h s (bits b) a) ≡ true
