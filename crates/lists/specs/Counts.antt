-- Counts with a limit. Assumes nothing.
use Rattle.std.specs.Prelude.{Bool, List, map, ℕ, leb}
use Rattle.lists.specs.Lists.{every}

-- 'A count is coins in one hour, 0 to 4,294,967,295'
abbrev pub max_count : ℕ
max_count = 4294967295

-- none of these counts is above the limit
unfoldable pub within : ℕ → List ℕ → Bool
within widest xs = every (map (λ x. leb x widest) xs)
