-- Document 01, 'The tree code': a tree of 2^h counts as bits, high bit first. Assumes nothing.
use Rattle.std.specs.Prelude.{List, [], ◌++◌, ℕ, zero, suc, ◌^◌, take, drop}
use Rattle.lists.specs.Lists.{sum, fill}
use Rattle.bits.specs.Bits.{field}
use Rattle.reserve.specs.Reserve.{digits, reserve}

-- 'Otherwise the first t bits are the sum of the left half, high bit first', then the left subtree, then the right one; 'bits left over
-- are 0'. The whole owns R(2^h, s) bits (`length-tree`). 'At h = 0 or s = 0 it has none': for s = 0 every part is empty by itself
-- (`tree-none`).
unfoldable pub tree : ℕ → List ℕ → List ℕ
tree zero xs = []
tree (suc h) xs =
    fill (reserve (suc h) (sum xs)) (field (digits (sum xs)) (sum (take (2 ^ h) xs)) ++ (tree h (take (2 ^ h) xs) ++ tree h (drop (2 ^ h) xs)))
