-- The nodes of a tree along a path: the last step of one, how many counts a node has, and what bits that hold its code say. Assumes nothing.
use mathlib.Core.List.{List, [], ◌∷◌, ◌++◌}
use mathlib.Core.Path.{◌≡◌, ap}
use Prim.Native.Nat.{ℕ, zero, suc, ◌+◌, ◌^◌}
use native.Mathlib.Omega.{arith}
use lib.ListN.{length, take, drop}
use Rattle.lists.specs.Lists.{sum}
use Rattle.reserve.specs.Reserve.{digits, reserve}
use Rattle.tree.specs.Ranges.{Side, child, left, left_node, node, right, right_node}
use Rattle.tree.specs.Read.{counts}
use Rattle.tree.proofs.Shape.{counts-tree, left-long, right-long}
use Rattle.demands.specs.Demand2.{Coded}

-- one step further than a node of height suc k
pub node-step : (ds : List Side) (d : Side) (h : ℕ) (xs : List ℕ) (a k : ℕ) → (node ds h xs a).height ≡ suc k
    → node (ds ++ d ∷ []) h xs a ≡ child d k (node ds h xs a).counts (node ds h xs a).first
unfolding node child
node-step [] d zero xs a k e = absurd (omega (arith, e))
node-step [] left (suc h) xs a k e = ap (λ (j : ℕ). left_node j xs a) {x = h} {y = k} (omega (arith, e))
node-step [] right (suc h) xs a k e = ap (λ (j : ℕ). right_node j xs a) {x = h} {y = k} (omega (arith, e))
node-step (c ∷ ds) d zero xs a k e = absurd (omega (arith, e))
node-step (c ∷ ds) d (suc h) xs a k e = node-step ds d h (child c h xs a).counts (child c h xs a).first k e

-- a node of height k has 2^k counts
pub node-long : (ds : List Side) (h : ℕ) (xs : List ℕ) (a : ℕ) → length xs ≡ 2 ^ h → length (node ds h xs a).counts ≡ 2 ^ (node ds h xs a).height
unfolding node child
node-long [] h xs a n = n
node-long (d ∷ ds) zero xs a n = n
node-long (left ∷ ds) (suc h) xs a n = node-long ds h (take (2 ^ h) xs) (a + digits (sum xs)) (left-long h xs n)
node-long (right ∷ ds) (suc h) xs a n =
    node-long ds h (drop (2 ^ h) xs) (a + digits (sum xs) + reserve h (sum (take (2 ^ h) xs))) (right-long h xs n)

-- where bits have a node's code, they say its counts
pub node-says : (ds : List Side) (h : ℕ) (xs : List ℕ) (a : ℕ) (B : List ℕ) → length xs ≡ 2 ^ h → Coded B (node ds h xs a)
    → counts (node ds h xs a).height (sum (node ds h xs a).counts) B (node ds h xs a).first ≡ (node ds h xs a).counts
node-says ds h xs a B n c =
    counts-tree (node ds h xs a).height (node ds h xs a).counts B (node ds h xs a).first (node-long ds h xs a n) c
