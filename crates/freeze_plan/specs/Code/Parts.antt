-- What src/parts.rt asks and does. The list xs stands nowhere in the code: it is the one whose counts the trees have. Assumes nothing.
use Rattle.std.specs.Prelude.{List, ◌≡◌, ℕ, ◌+◌, ◌*◌, ◌^◌, ◌≤◌, ◌<◌, length, get_or}
use Rattle.lists.specs.Lists.{part, sum, window}
use Rattle.bits.specs.Bits.{bits}
use Rattle.reserve.specs.Reserve.{reserve}
use Rattle.tree.specs.Tree.{tree}
use Rattle.tree.specs.Code.Node.{Lies}

-- the tree of the 2^h counts of xs behind i times as many from hour from on stands at bit at of code, its sum is t; out has zeros for the
-- sums of its 2^k parts of 2^e counts
pub record Branch (code : List ℕ) (at h e t i : ℕ) (out : List ℕ) : Type 0 where
  pub xs : List ℕ
  pub from : ℕ
  pub k : ℕ
  pub height : h ≡ e + k
  pub lies : Lies code at h t
  pub sum_is : t ≡ sum (window xs (from + 2 ^ h * i) (2 ^ h))
  pub tree_is : part (bits code) at (reserve h t) ≡ tree h (window xs (from + 2 ^ h * i) (2 ^ h))
  pub room : 2 ^ k * (i + 1) ≤ length out
  pub zeros : (j : ℕ) → 2 ^ k * i ≤ j → j < 2 ^ k * (i + 1) → get_or out j 0 ≡ 0

-- these sums stand in r, and else what stands in out
pub record Summed (xs : List ℕ) (from e k i : ℕ) (out r : List ℕ) : Type 0 where
  pub inside : (j : ℕ) → 2 ^ k * i ≤ j → j < 2 ^ k * (i + 1) → get_or r j 0 ≡ sum (window xs (from + 2 ^ e * j) (2 ^ e))
  pub before : (j : ℕ) → j < 2 ^ k * i → get_or r j 0 ≡ get_or out j 0
  pub behind : (j : ℕ) → 2 ^ k * (i + 1) ≤ j → get_or r j 0 ≡ get_or out j 0
