-- A word whose high bits are bits of a list. Assumes nothing.
use Rattle.std.specs.Prelude.{List, ◌≡◌, ℕ, ◌+◌, ◌-◌, ◌/◌, ◌%◌, ◌^◌, ◌≤◌, length}
use Rattle.lists.specs.Lists.{part}
use Rattle.bits.specs.Bits.{value}

-- the bits b from bit a on stand at the high end of the word w, 57 of them or as many as there are: any n of them, k bits on
abbrev pub Front : List ℕ → ℕ → ℕ → Type 0
Front b a w = (k n : ℕ) → k + n ≤ 57 → a + (k + n) ≤ length b → value (part b (a + k) n) ≡ w / 2 ^ (64 - (k + n)) % 2 ^ n
