-- A page's code as it is gathered from its cells. Assumes nothing.
use Rattle.std.specs.Prelude.{List, ◌++◌, ◌≡◌, ℕ, ◌-◌, ◌*◌, replicate}
use Rattle.bits.specs.Numbers.{number_at}
use Rattle.store.specs.PageCode.{cells, page_bytes, page_room}
use Rattle.store.specs.Plain.{page}
use Rattle.store.specs.Layout.{cells_start}
use Rattle.store.specs.Reading.{chain_from, chain_in, code_in, list_in, page_count_of, sum_in}

-- the code of k cells from the cell that the link at address a names
abbrev pub code_from : List ℕ → ℕ → ℕ → ℕ → List ℕ
code_from s base a k = code_in s base (chain_from s base k (number_at s a 2))

-- r is the code of page p of a store s, in the bytes of eight cells: 'Its code runs along its chain, unused bits zero'. What stands
-- in its cells is the code of the page's counts
pub record Gathered (s : List ℕ) (p : ℕ) (r : List ℕ) : Type 0 where
  pub cells_are : r ≡ code_in s (cells_start (page_count_of s)) (chain_in s (page_count_of s) p) ++ replicate (page_room - 30 * cells (sum_in s p)) 0
  pub code_is : r ≡ page_bytes (page (list_in s) p) ++ replicate (page_room - 30 * cells (sum_in s p)) 0
