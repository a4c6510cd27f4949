-- When a store is sound: as a test that is computed, and as facts. Assumes nothing.
use Rattle.std.specs.Prelude.{Bool, true, ◌&&◌, List, [], ◌∷◌, ◌++◌, ◌≡◌, ℕ, suc, ◌*◌, ◌≤◌, ◌<◌, length, get_or, replicate, leb, eqb}
use Rattle.lists.specs.Lists.{tabulate, concat, sum, every, same, one, occurrences}
use Rattle.store.specs.PageCode.{cells}
use Rattle.store.specs.Plain.{page}
use Rattle.store.specs.Layout.{Model, bytes_of}
use Rattle.store.specs.Limits.{Limits, limit_tests, max_total, page_hours}
use Rattle.store.specs.Reading.{read}

-- every cell that is on a chain, chain by chain
unfoldable pub on_chains : Model → List ℕ
on_chains m = concat m.chains ++ m.spare

-- 1 for the number of a cell, 1 to C
unfoldable pub is_cell : ℕ → ℕ → ℕ
is_cell C c = one (leb 1 c && leb c C)

-- all are numbers of cells
unfoldable pub within : ℕ → List ℕ → Bool
within C [] = true
within C (c ∷ cs) = (leb 1 c && leb c C) && within C cs

-- 'pages P from 1 to 1,024; cells C from 1 to 1,800; 64 counts a page; total at most 4,294,967,295', 'a page of sum s has
-- ceil(R(64, s) / 240) cells', 'N ≤ 64P, the total fits, and each cell is on exactly one chain'
unfoldable pub tests : Model → List Bool
tests m =
    limit_tests m.plain.pages m.plain.cells
    ++ leb (length m.plain.counts) (page_hours * m.plain.pages)
    ∷ leb (sum m.plain.counts) max_total
    ∷ eqb (length m.chains) m.plain.pages
    ∷ same (tabulate m.plain.pages (λ p. length (get_or m.chains p [])))
    (tabulate m.plain.pages (λ p. cells (sum (page m.plain.counts p))))
    ∷ within m.plain.cells (on_chains m)
    ∷ same (tabulate m.plain.cells (λ j. occurrences (suc j) (on_chains m))) (replicate m.plain.cells 1)
    ∷ eqb (length (on_chains m)) m.plain.cells
    ∷ []

unfoldable pub fine : Model → Bool
fine m = every (tests m)

-- the same as facts
pub record Good (m : Model) : Type 0 where
  pub limits : Limits m.plain.pages m.plain.cells
  pub hours : length m.plain.counts ≤ page_hours * m.plain.pages
  pub total : sum m.plain.counts ≤ max_total
  pub rows : length m.chains ≡ m.plain.pages
  -- each page has the cells that its sum needs
  pub lengths : (p : ℕ) → p < m.plain.pages → length (get_or m.chains p []) ≡ cells (sum (page m.plain.counts p))
  -- each cell is on exactly one chain, and nothing else is
  pub once : (c : ℕ) → occurrences c (on_chains m) ≡ is_cell m.plain.cells c
  pub all : length (on_chains m) ≡ m.plain.cells

-- Bytes are sound if what they say is good, and is written as exactly these bytes: so every byte is as document 01 lays it out.
unfoldable pub sound : List ℕ → Bool
sound s = fine (read s) && same s (bytes_of (read s))
