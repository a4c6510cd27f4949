-- Bits that are a tree's code, as a test of each node. That this is 'the code of some list' is `exact-coded` and `tree-exact`.
-- Assumes nothing.
use Rattle.std.specs.Prelude.{Bool, true, List, [], ◌∷◌, ◌≡◌, ℕ, zero, suc, ◌+◌, ◌-◌, replicate, leb}
use Rattle.lists.specs.Lists.{every, same, part, sum}
use Rattle.reserve.specs.Reserve.{digits, reserve}
use Rattle.tree.specs.Tree.{tree}
use Rattle.tree.specs.Read.{left_of, left_at, right_at, counts}

-- n bits from a on are 0
unfoldable pub clear : List ℕ → ℕ → ℕ → Bool
clear b a n = same (part b a n) (replicate n 0)

-- the bits left over in a node of height h + 1: where they start, and how many
abbrev pub spare_at : ℕ → ℕ → ℕ → ℕ → ℕ
spare_at h s l a = right_at h s l a + reserve h (s - l)

abbrev pub spare_len : ℕ → ℕ → ℕ → ℕ
spare_len h s l = reserve (suc h) s - (digits s + reserve h l + reserve h (s - l))

-- no left sum above its node, and left-over bits 0, in the whole tree
unfoldable pub exact : ℕ → ℕ → List ℕ → ℕ → Bool
exact zero s b a = true
exact (suc h) s b a =
    let l = left_of s b a in
    every (leb l s ∷ exact h l b (left_at s a) ∷ exact h (s - l) b (right_at h s l a) ∷ clear b (spare_at h s l a) (spare_len h s l) ∷ [])

-- the bits are the code of the counts that they say, and these have the sum
pub record CodeOfCounts (h s : ℕ) (b : List ℕ) (a : ℕ) : Type 0 where
  pub total : sum (counts h s b a) ≡ s
  pub code : part b a (reserve h s) ≡ tree h (counts h s b a)
