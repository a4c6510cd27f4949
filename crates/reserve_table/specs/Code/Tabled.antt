-- A table of small reserves. Assumes nothing.
use Rattle.std.specs.Prelude.{List, ◌≡◌, ℕ, ◌+◌, ◌*◌, ◌≤◌, ◌<◌, get_or}
use Rattle.reserve.specs.Reserve.{reserve}

-- 64 sums for each height, one height after another
pub record Tabled (l : List ℕ) : Type 0 where
  pub entry : (h s : ℕ) → h ≤ 7 → s < 64 → get_or l (h * 64 + s) 0 ≡ reserve h s
