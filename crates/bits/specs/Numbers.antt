-- Stored numbers of several bytes: 'put the low byte first'. Assumes nothing.
use Rattle.std.specs.Prelude.{List, [], ◌∷◌, ◌≡◌, ℕ, zero, suc, ◌+◌, ◌*◌, ◌/◌, ◌%◌, ◌^◌, ◌<◌}
use Rattle.lists.specs.Lists.{part}

-- v in w bytes
unfoldable pub little : ℕ → ℕ → List ℕ
little zero v = []
little (suc w) v = v % 256 ∷ little w (v / 256)

-- the number that bytes stand for
unfoldable pub number : List ℕ → ℕ
number [] = 0
number (b ∷ bs) = b + 256 * number bs

-- the number in the w bytes of s from a on
abbrev pub number_at : List ℕ → ℕ → ℕ → ℕ
number_at s a w = number (part s a w)

-- r is that number, and has no more than w bytes
pub record Number (s : List ℕ) (a w r : ℕ) : Type 0 where
  pub is : r ≡ number_at s a w
  pub small : r < 256 ^ w
