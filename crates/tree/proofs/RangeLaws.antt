-- The ranges of the nodes of a tree: inside each other or apart, and each holds its subtree's code. Assumes nothing.
use mathlib.Core.Path.{◌≡◌, refl}
use mathlib.Core.List.{List, [], ◌∷◌, ◌++◌}
use Prim.Native.Nat.{ℕ, zero, suc, ◌+◌, ◌^◌, ◌≤◌, ◌<◌}
use native.Mathlib.Omega.{arith}
use native.Mathlib.Nat.{not-suc-le-zero}
use lib.ListN.{length, take, drop}
use Rattle.reserve.specs.Reserve.{digits, reserve}
use Rattle.reserve.proofs.Fit.{fit_all}
use Rattle.lists.specs.Lists.{sum, part}
use Rattle.tree.specs.Tree.{tree}
use Rattle.tree.specs.Ranges.{Node, end, Side, left, right, child, node, Inside, Parts}
use Rattle.lists.proofs.Sums.{sum-halves}
use Rattle.tree.proofs.Shape.{left-region, right-region}

abbrev at : ℕ → List ℕ → ℕ → Node
at h xs a = record { height = h; counts = xs; first = a }

fits : (h : ℕ) (xs : List ℕ) → digits (sum xs) + reserve h (sum (take (2 ^ h) xs)) + reserve h (sum (drop (2 ^ h) xs)) ≤ reserve (suc h) (sum xs)
fits h xs = fit_all h (sum xs) (sum (take (2 ^ h) xs)) (sum (drop (2 ^ h) xs)) (sum-halves (2 ^ h) xs)

-- field, left range and right range of every inner node: in this order, apart, in the node's range
pub parts-of : (h : ℕ) (xs : List ℕ) (a : ℕ) → Parts h xs a
parts-of h xs a =
    record { field-first = omega (arith, fits h xs); left-after-field = refl; right-after-left = refl; right-within = omega (arith, fits h xs) }

-- every node's range lies in the range of each node above it
pub inside : (ds : List Side) (h : ℕ) (xs : List ℕ) (a : ℕ) → Inside (node ds h xs a) (at h xs a)
unfolding node child
inside [] h xs a = omega arith
inside (d ∷ ds) zero xs a = omega arith
inside (left ∷ ds) (suc h) xs a =
    let i = inside ds h (take (2 ^ h) xs) (a + digits (sum xs)) in
    (omega (arith, i.0), omega (arith, i.1, fits h xs))
inside (right ∷ ds) (suc h) xs a =
    let i = inside ds h (drop (2 ^ h) xs) (a + digits (sum xs) + reserve h (sum (take (2 ^ h) xs))) in
    (omega (arith, i.0), omega (arith, i.1, fits h xs))

-- two nodes on different sides of a third are apart, the left one first
pub apart : (cs ds es : List Side) (h : ℕ) (xs : List ℕ) (a : ℕ) → length cs < h → end (node (cs ++ left ∷ ds) h xs a) ≤ (node (cs ++ right ∷ es) h xs a).first
unfolding node child
apart cs ds es zero xs a l = absurd (not-suc-le-zero l)
apart [] ds es (suc h) xs a l =
    omega (
      arith,
      (inside ds h (take (2 ^ h) xs) (a + digits (sum xs))).1,
      (inside es h (drop (2 ^ h) xs)
          (a + digits (sum xs) + reserve h (sum (take (2 ^ h) xs)))).0,
    )
apart (left ∷ cs) ds es (suc h) xs a l = apart cs ds es h (take (2 ^ h) xs) (a + digits (sum xs)) (omega arith)
apart (right ∷ cs) ds es (suc h) xs a l = apart cs ds es h (drop (2 ^ h) xs) (a + digits (sum xs) + reserve h (sum (take (2 ^ h) xs))) (omega arith)

-- what stands in a node's range is its subtree's code, whatever the rest of the bits
pub holds-code : (ds : List Side) (h : ℕ) (xs b : List ℕ) (a : ℕ) → part b a (reserve h (sum xs)) ≡ tree h xs
    → part b (node ds h xs a).first (reserve (node ds h xs a).height (sum (node ds h xs a).counts)) ≡ tree (node ds h xs a).height (node ds h xs a).counts
unfolding node child
holds-code [] h xs b a e = e
holds-code (d ∷ ds) zero xs b a e = e
holds-code (left ∷ ds) (suc h) xs b a e = holds-code ds h (take (2 ^ h) xs) b (a + digits (sum xs)) (left-region h xs b a e)
holds-code (right ∷ ds) (suc h) xs b a e =
    holds-code ds h (drop (2 ^ h) xs) b (a + digits (sum xs) + reserve h (sum (take (2 ^ h) xs))) (right-region h xs b a e)
