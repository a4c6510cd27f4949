-- Where a figure is reached in a list of pages. Assumes nothing.
use Rattle.std.specs.Prelude.{List, ◌≡◌, ℕ, ◌+◌, ◌*◌, ◌≤◌, ◌<◌}
use Rattle.lists.specs.Lists.{reading, sum}
use Rattle.store.specs.Limits.{page_hours}
use Rattle.store.specs.Plain.{page}

-- the figure q of the list xs of P pages is reached in page p, where rest is left of it
pub record Spots (xs : List ℕ) (P q p rest : ℕ) : Type 0 where
  pub inside : p < P
  pub before : reading xs (page_hours * p) + rest ≡ q
  pub some : 1 ≤ rest
  pub enough : rest ≤ sum (page xs p)
