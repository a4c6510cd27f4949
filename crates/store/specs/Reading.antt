-- What bytes say when they are read as a store, sound or not: nothing is tested. Assumes nothing.
use Rattle.std.specs.Prelude.{List, [], ◌∷◌, ◌++◌, ◌≡◌, ℕ, zero, suc, ◌+◌, ◌≤◌, take}
use Rattle.lists.specs.Lists.{tabulate, concat, part}
use Rattle.bits.specs.Numbers.{number_at}
use Rattle.store.specs.PageCode.{cells, counts_in_page}
use Rattle.store.specs.Layout.{Model, entry_at, cell_at, cells_start}

-- P, C and N as the header says them
abbrev pub page_count_of : List ℕ → ℕ
page_count_of s = number_at s 2 2

abbrev pub cells_of : List ℕ → ℕ
cells_of s = number_at s 4 2

abbrev pub hours_in : List ℕ → ℕ
hours_in s = number_at s 12 4

-- In what follows the cells start at base. k cells along a chain, from cell c on
unfoldable pub chain_from : List ℕ → ℕ → ℕ → ℕ → List ℕ
chain_from s base zero c = []
chain_from s base (suc k) c = c ∷ chain_from s base k (number_at s (cell_at base c) 2)

-- The cells cs are a whole chain from the number c on: 'A chain runs from a page's first cell, or from the first free cell, along the next
-- cells. Next 0 ends a chain, and one with first cell 0 is empty'
abbrev pub Runs : List ℕ → ℕ → ℕ → List ℕ → Type 0
Runs s base c [] = c ≡ 0
Runs s base c (d ∷ cs) = (c ≡ d) × (1 ≤ d) × Runs s base (number_at s (cell_at base d) 2) cs

-- the 30 bytes of each cell of a chain, one after another
unfoldable pub code_in : List ℕ → ℕ → List ℕ → List ℕ
code_in s base [] = []
code_in s base (c ∷ cs) = part s (cell_at base c + 2) 30 ++ code_in s base cs

-- the sum in page p's entry
unfoldable pub sum_in : List ℕ → ℕ → ℕ
sum_in s p = number_at s (entry_at p) 4

-- the first cell in page p's entry
abbrev pub first_in : List ℕ → ℕ → ℕ
first_in s p = number_at s (entry_at p + 4) 2

-- page p's chain: as many cells as the sum asks for, from the entry's first cell on
unfoldable pub chain_in : List ℕ → ℕ → ℕ → List ℕ
chain_in s P p = chain_from s (cells_start P) (cells (sum_in s p)) (first_in s p)

-- its counts
unfoldable pub page_in : List ℕ → ℕ → ℕ → List ℕ
page_in s P p = counts_in_page (sum_in s p) (code_in s (cells_start P) (chain_in s P p))

-- the free chain: as many cells as the header says, from the first free cell on
unfoldable pub spare_in : List ℕ → ℕ → List ℕ
spare_in s P = chain_from s (cells_start P) (number_at s 8 2) (number_at s 6 2)

-- what bytes of P pages say
unfoldable pub read_for : List ℕ → ℕ → Model
read_for s P = record {
  plain = record { pages = P; cells = cells_of s; counts = take (hours_in s) (concat (tabulate P (page_in s P))) };
  chains = tabulate P (chain_in s P);
  spare = spare_in s P;
}

unfoldable pub read : List ℕ → Model
read s = read_for s (page_count_of s)

-- the list that they say
abbrev pub list_in : List ℕ → List ℕ
list_in s = (read s).plain.counts
