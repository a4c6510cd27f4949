-- What a search along a list has found so far, as functions hand it on. Assumes nothing.
use Rattle.std.specs.Prelude.{List, ◌≡◌, ℕ, ◌≤◌, ◌<◌}
use Rattle.runs.specs.Runs.{Matches, run_sum}

-- the best of the runs that start at hours up to j
pub record Best (xs : List ℕ) (k j first total : ℕ) : Type 0 where
  pub low : first ≤ j
  pub total-is : total ≡ run_sum xs first k
  pub most : (i : ℕ) → i ≤ j → run_sum xs i k ≤ total
  pub earliest : (i : ℕ) → i < first → run_sum xs i k < total

-- no run that starts before hour lo has the sum q
abbrev pub NoneBefore : List ℕ → ℕ → ℕ → Type 0
NoneBefore xs q lo = (j n : ℕ) → j < lo → Matches xs q j n → ⊥
