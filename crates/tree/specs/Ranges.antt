-- Demand 2's ranges: those of the nodes of a tree, as numbers. Assumes nothing.
use Rattle.std.specs.Prelude.{List, [], ◌∷◌, ◌≡◌, ℕ, zero, suc, ◌+◌, ◌^◌, ◌≤◌, take, drop}
use Rattle.reserve.specs.Reserve.{digits, reserve}
use Rattle.lists.specs.Lists.{sum}

-- a node: its height, its counts, and the bit where its tree starts
pub record Node : Type 0 where
  pub height : ℕ
  pub counts : List ℕ
  pub first : ℕ

-- its range is [first, end)
abbrev pub end : Node → ℕ
end n = n.first + reserve n.height (sum n.counts)

pub data Side : Type 0 where
  left : Side
  right : Side

-- a node of height suc h has two subtrees
abbrev pub left_node : ℕ → List ℕ → ℕ → Node
left_node h xs a = record { height = h; counts = take (2 ^ h) xs; first = a + digits (sum xs) }

abbrev pub right_node : ℕ → List ℕ → ℕ → Node
right_node h xs a = record { height = h; counts = drop (2 ^ h) xs; first = a + digits (sum xs) + reserve h (sum (take (2 ^ h) xs)) }

unfoldable pub child : Side → ℕ → List ℕ → ℕ → Node
child left h xs a = left_node h xs a
child right h xs a = right_node h xs a

-- the node that a path leads to, from a node of height h with counts xs at bit a; a path that goes on at height 0 stays
unfoldable pub node : List Side → ℕ → List ℕ → ℕ → Node
node [] h xs a = record { height = h; counts = xs; first = a }
node (d ∷ ds) zero xs a = record { height = 0; counts = xs; first = a }
node (d ∷ ds) (suc h) xs a = node ds h (child d h xs a).counts (child d h xs a).first

-- one range lies in another
abbrev pub Inside : Node → Node → Type 0
Inside m n = (n.first ≤ m.first) × (end m ≤ end n)

-- the claim for one inner node: field, left range, right range, in this order, none over another, all in the node's range
pub record Parts (h : ℕ) (xs : List ℕ) (a : ℕ) : Type 0 where
  pub field-first : a + digits (sum xs) ≤ a + reserve (suc h) (sum xs)
  pub left-after-field : (left_node h xs a).first ≡ a + digits (sum xs)
  pub right-after-left : (right_node h xs a).first ≡ end (left_node h xs a)
  pub right-within : end (right_node h xs a) ≤ a + reserve (suc h) (sum xs)
