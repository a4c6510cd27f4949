-- The first counts of a page, with as many coins as are wanted. Assumes nothing.
use Rattle.std.specs.Prelude.{List, ◌≡◌, ℕ, ◌≤◌, ◌<◌, length}
use Rattle.lists.specs.Lists.{reading}
use Rattle.sum_marks.specs.declared.prefix.Prefix.{Prefix}

-- some of the counts and their sum, so few that any fewer have less than is wanted
pub record PrefixOf (counts : List ℕ) (want : ℕ) (r : Prefix) : Type 0 where
  pub inside : r.hours ≤ length counts
  pub sum_is : r.sum ≡ reading counts r.hours
  pub short : (k : ℕ) → k < r.hours → reading counts k < want

-- these have just as much, or there are none that do
pub record Tried (counts : List ℕ) (want : ℕ) (r : Prefix) : Type 0 where
  pub prefix : PrefixOf counts want r
  pub missed : (r.sum ≡ want → ⊥) → (k : ℕ) → 1 ≤ k → k ≤ length counts → reading counts k ≡ want → ⊥
