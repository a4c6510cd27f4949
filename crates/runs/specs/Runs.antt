-- Runs of successive hours. Assumes nothing.
use Rattle.std.specs.Prelude.{List, ◌≡◌, ℕ, ◌+◌, ◌≤◌, ◌<◌, length}
use Rattle.lists.specs.Lists.{part, sum}

-- the sum of the k hours from hour j on
abbrev pub run_sum : List ℕ → ℕ → ℕ → ℕ
run_sum xs j k = sum (part xs j k)

-- Document 02, note 1: 'the run of exactly k successive hours with the largest sum: its first hour and its sum, the earliest run on a tie. No
-- other run of k hours may hold more'
pub record Busiest (xs : List ℕ) (k first total : ℕ) : Type 0 where
  pub inside : first + k ≤ length xs
  pub total-is : total ≡ run_sum xs first k
  pub most : (j : ℕ) → j + k ≤ length xs → run_sum xs j k ≤ total
  pub earliest : (j : ℕ) → j < first → run_sum xs j k < total

-- a run of n hours from hour j on, one at least, with the sum q
pub record Matches (xs : List ℕ) (q j n : ℕ) : Type 0 where
  pub some : 1 ≤ n
  pub inside : j + n ≤ length xs
  pub sum_is : run_sum xs j n ≡ q

-- Document 02, note 7: 'a run of successive hours, one at least, with sum exactly q: the earliest first hour, then the fewest hours'
pub record FirstMatch (xs : List ℕ) (q first hours : ℕ) : Type 0 where
  pub matches : Matches xs q first hours
  pub earliest : (j n : ℕ) → Matches xs q j n → first ≤ j
  pub fewest : (n : ℕ) → Matches xs q first n → hours ≤ n

-- 'none, and only if no such run is there'
abbrev pub NoMatch : List ℕ → ℕ → Type 0
NoMatch xs q = (j n : ℕ) → Matches xs q j n → ⊥
