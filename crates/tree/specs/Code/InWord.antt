-- A tree whose bits are in a word. Assumes nothing.
use Rattle.std.specs.Prelude.{List, ◌≡◌, ℕ, ◌+◌, ◌-◌, ◌/◌, ◌%◌, ◌^◌, ◌≤◌}
use Rattle.lists.specs.Lists.{part}
use Rattle.bits.specs.Bits.{value}
use Rattle.reserve.specs.Reserve.{reserve}

-- the bits of the tree of 2^h counts with sum s, which stand in b from bit a on, stand in the word w behind its k high ones: any n of them,
-- i bits on
pub record InWord (b : List ℕ) (a h s w k : ℕ) : Type 0 where
  pub piece : (i n : ℕ) → i + n ≤ reserve h s → value (part b (a + i) n) ≡ w / 2 ^ (64 - (k + i + n)) % 2 ^ n

-- eight counts with a sum below this own 57 bits at most, which one load has (`eight_fits`)
abbrev pub eight_limit : ℕ
eight_limit = 439
