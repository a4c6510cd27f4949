-- A store whose chains are right, as they are also between two pages of a change. Assumes nothing.
use Rattle.std.specs.Prelude.{List, [], ◌≡◌, ℕ, ◌*◌, ◌≤◌, ◌<◌, length, get_or}
use Rattle.lists.specs.Lists.{sum, occurrences}
use Rattle.store.specs.PageCode.{cells}
use Rattle.store.specs.Plain.{page}
use Rattle.store.specs.Layout.{Model, bytes_of}
use Rattle.store.specs.Limits.{Limits, max_total, page_hours}
use Rattle.store.specs.Reading.{read}
use Rattle.store.specs.Sound.{is_cell, on_chains}

-- What holds of the chains alone, also between two pages of a change, when the total may not yet be that of a store: there are pages for all
-- hours, each page has the cells that its sum needs, its sum fits, and each cell is on exactly one chain
pub record Chained (m : Model) : Type 0 where
  pub limits : Limits m.plain.pages m.plain.cells
  pub hours : length m.plain.counts ≤ page_hours * m.plain.pages
  pub rows : length m.chains ≡ m.plain.pages
  pub lengths : (p : ℕ) → p < m.plain.pages → length (get_or m.chains p []) ≡ cells (sum (page m.plain.counts p))
  pub sums : (p : ℕ) → p < m.plain.pages → sum (page m.plain.counts p) ≤ max_total
  pub once : (c : ℕ) → occurrences c (on_chains m) ≡ is_cell m.plain.cells c
  pub all : length (on_chains m) ≡ m.plain.cells

-- bytes that hold such a model
pub record HoldsChains (s : List ℕ) : Type 0 where
  pub chained : Chained (read s)
  pub same : s ≡ bytes_of (read s)
