-- A table of small sums. Assumes nothing.
use Rattle.std.specs.Prelude.{true, List, [], ◌∷◌, ◌++◌, ◌≡◌, ℕ, ◌+◌, ◌*◌, ◌/◌, ◌%◌, ◌^◌, ◌≤◌, ◌<◌, get_or}
use Rattle.bits.specs.Bits.{field}
use Rattle.reserve.specs.Reserve.{digits, reserve}
use Rattle.tree.specs.Code.Exact.{exact}
use Rattle.tree.specs.Read.{counts}

-- four numbers of two bits in a byte, the lowest first
unfoldable pub quarters : ℕ → List ℕ
quarters x = x % 4 ∷ x / 4 % 4 ∷ x / 16 % 4 ∷ x / 64 % 4 ∷ []

-- the place of the first four counts of eight with sum s, whose code is the number v; the other four stand behind them
abbrev pub few_at : ℕ → ℕ → ℕ
few_at s v = 704 + 2 * (8 * s + v)

-- 256 sums and their digits, 256 and what four counts reserve for them, 64 sums for each height from 3 to 5, and for sums below 3 the eight
-- counts of each code, which has three bits a coin
pub record Sums (l : List ℕ) : Type 0 where
  pub digits_are : (s : ℕ) → s < 256 → get_or l s 0 ≡ digits s
  pub fours-are : (s : ℕ) → s < 256 → get_or l (256 + s) 0 ≡ reserve 2 s
  pub reserves-are : (h s : ℕ) → 3 ≤ h → h ≤ 5 → s < 64 → get_or l (h * 64 + 320 + s) 0 ≡ reserve h s
  pub few-are : (s v : ℕ) → s < 3 → v < 2 ^ (3 * s) → exact 3 s (field (3 * s) v) 0 ≡ true
      → quarters (get_or l (few_at s v) 0) ++ quarters (get_or l (few_at s v + 1) 0) ≡ counts 3 s (field (3 * s) v) 0
