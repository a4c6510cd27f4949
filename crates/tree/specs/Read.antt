-- What bits say when they are read as a tree of 2^h counts with sum s from bit a on, whatever they are. Assumes nothing.
use Rattle.std.specs.Prelude.{List, [], ◌∷◌, ◌++◌, ℕ, zero, suc, ◌+◌, ◌-◌, ◌^◌, leb, ltb}
use Rattle.lists.specs.Lists.{pick, part}
use Rattle.bits.specs.Bits.{value}
use Rattle.reserve.specs.Reserve.{digits, reserve}

-- the left sum of a node of sum s at bit a
unfoldable pub left_of : ℕ → List ℕ → ℕ → ℕ
left_of s b a = value (part b a (digits s))

-- 'The left subtree starts at a + t'
abbrev pub left_at : ℕ → ℕ → ℕ
left_at s a = a + digits s

-- 'the right one starts where the left one's reserve ends', l being the left sum
abbrev pub right_at : ℕ → ℕ → ℕ → ℕ → ℕ
right_at h s l a = a + digits s + reserve h l

-- the counts, tested by nothing
unfoldable pub counts : ℕ → ℕ → List ℕ → ℕ → List ℕ
counts zero s b a = s ∷ []
counts (suc h) s b a =
    let l = left_of s b a in
    counts h l b (left_at s a) ++ counts h (s - l) b (right_at h s l a)

-- what a walk to a count finds: damage, or the sum of the counts before it, and the count
pub data Found : Type 0 where
  damaged : Found
  found : ℕ → ℕ → Found

-- the same with l more before it
unfoldable pub later : ℕ → Found → Found
later l damaged = damaged
later l (found x c) = found (l + x) c

-- the walk to count j. 'A left sum above s is damage', where it is met on the way
unfoldable pub walk : ℕ → ℕ → List ℕ → ℕ → ℕ → Found
walk zero s b a j = found 0 s
walk (suc h) s b a j =
    let l = left_of s b a in
    let down = pick (ltb j (2 ^ h)) (walk h l b (left_at s a) j) (later l (walk h (s - l) b (right_at h s l a) (j - 2 ^ h))) in
    pick (leb l s) down damaged

-- what a search by prefix sum finds: damage, or an index
pub data Sought : Type 0 where
  nowhere : Sought
  at-index : ℕ → Sought

-- the same with n more counts before it
unfoldable pub shifted : ℕ → Sought → Sought
shifted n nowhere = nowhere
shifted n (at-index i) = at-index (n + i)

-- the search for the least index whose prefix sum is q or more, 1 ≤ q ≤ s: left where the left sum is q or more
unfoldable pub seek : ℕ → ℕ → List ℕ → ℕ → ℕ → Sought
seek zero s b a q = at-index 1
seek (suc h) s b a q =
    let l = left_of s b a in
    let down = pick (leb q l) (seek h l b (left_at s a) q) (shifted (2 ^ h) (seek h (s - l) b (right_at h s l a) (q - l))) in
    pick (leb l s) down nowhere
