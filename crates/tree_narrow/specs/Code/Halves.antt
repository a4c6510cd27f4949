-- A node's two halves. Assumes nothing.
use Rattle.std.specs.Prelude.{Bool, true, false, ◌&&◌, List, ◌≡◌, ℕ, ◌-◌, ◌≤◌, leb, Option, None, Some}
use Rattle.reserve.specs.Reserve.{reserve}
use Rattle.tree.specs.Read.{left_at, left_of, right_at}
use Rattle.tree.specs.Code.Exact.{clear, spare_at, spare_len}
use Rattle.tree_narrow.specs.declared.Halves.{Halves}

-- the node of height h + 1 at bit a with sum s has a left sum of at most s, and zeros in the bits left over
abbrev pub sound : List ℕ → ℕ → ℕ → ℕ → Bool
sound b a h s = leb (left_of s b a) s && clear b (spare_at h s (left_of s b a) a) (spare_len h s (left_of s b a))

-- such a node: its left sum, where its halves start, and how many bits each owns
pub record HalvesOf (b : List ℕ) (a h s : ℕ) (n : Halves) : Type 0 where
  pub is_sound : sound b a h s ≡ true
  pub left_is : n.left ≡ left_of s b a
  pub left_le : n.left ≤ s
  pub first-is : n.first ≡ left_at s a
  pub own_is : n.own ≡ reserve h n.left
  pub second_is : n.second ≡ right_at h s n.left a
  pub rest-is : n.rest ≡ reserve h (s - n.left)

-- the same, or none where the node is damaged
abbrev pub Halved : List ℕ → ℕ → ℕ → ℕ → Option Halves → Type 0
Halved b a h s None = sound b a h s ≡ false
Halved b a h s (Some n) = HalvesOf b a h s n
