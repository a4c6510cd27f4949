-- Trees that are decoded out of one word. Assumes nothing.
use Rattle.std.specs.Prelude.{ℕ, ◌≤◌, ◌<◌}
use Rattle.reserve.specs.Reserve.{reserve}

-- a tree of 16 to 64 counts with sum s, within the row of reserves, all of whose bits are in one load, which has 57 at least
pub record FitsWord (h s : ℕ) : Type 0 where
  pub least : 4 ≤ h
  pub most : h ≤ 6
  pub few : s < 64
  pub bits : reserve h s ≤ 57
