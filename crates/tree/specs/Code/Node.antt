-- What the functions that read or write a tree ask, and what is read of a node. Assumes nothing.
use Rattle.std.specs.Prelude.{List, ◌≡◌, ℕ, ◌+◌, ◌*◌, ◌^◌, ◌≤◌, ◌<◌, length, Option, None, Some}
use Rattle.reserve.specs.Reserve.{reserve}
use Rattle.tree.specs.Read.{left_of, left_at, right_at}
use Rattle.tree.specs.declared.node.Split.{Split}

-- a tree of 2^h counts with sum s from bit a on lies in the bytes b
pub record Lies (b : List ℕ) (a h s : ℕ) : Type 0 where
  pub height : h ≤ 8
  pub total : s < 1099511627776
  pub long : 8 ≤ length b
  pub inside : a + reserve h s ≤ 8 * length b
  pub small : a + reserve h s < 2 ^ 63

-- a node of height h + 1 at bit a with sum s and left sum l, which is at most s: where its subtrees start
pub record PartsOf (l a h s : ℕ) (r : Split) : Type 0 where
  pub left_is : r.left ≡ l
  pub left_le : r.left ≤ s
  pub first-is : r.first ≡ left_at s a
  pub second_is : r.second ≡ right_at h s r.left a

-- the same, or none where the left sum is above s
abbrev pub Parted : ℕ → ℕ → ℕ → ℕ → Option Split → Type 0
Parted l a h s None = s < l
Parted l a h s (Some r) = PartsOf l a h s r

-- the node of height h + 1 that was read: its left sum, and where its subtrees start; or none, where the left sum is above its sum
abbrev pub Rooted : List ℕ → ℕ → ℕ → ℕ → Option Split → Type 0
Rooted b a h s r = Parted (left_of s b a) a h s r
