-- Document 01: 'A store is sound if all of this holds', clause by clause, of the bytes. proofs/ItemLaws.antt shows that it is `sound`:
-- `items-sound` and `sound-items`. Assumes nothing.
use Rattle.std.specs.Prelude.{List, [], ◌∷◌, ◌++◌, ◌≡◌, ℕ, ◌+◌, ◌*◌, ◌≤◌, ◌<◌, length, get_or, replicate}
use Rattle.lists.specs.Lists.{concat, occurrences, part, sum, tabulate}
use Rattle.bits.specs.Numbers.{number_at}
use Rattle.store.specs.PageCode.{page_bytes}
use Rattle.store.specs.Layout.{cells_start}
use Rattle.store.specs.Limits.{max_total, page_hours}
use Rattle.store.specs.Fitting.{Fitting}
use Rattle.store.specs.Reading.{Runs, cells_of, chain_in, code_in, first_in, hours_in, page_in, page_count_of, spare_in, sum_in}
use Rattle.store.specs.Sound.{is_cell}

-- the cells of all chains, the pages' and the free one
abbrev pub on_all : List ℕ → List ℕ
on_all s = concat (tabulate (page_count_of s) (chain_in s (page_count_of s))) ++ spare_in s (page_count_of s)

pub record Items (s : List ℕ) : Type 0 where
  -- 'pages P from 1 to 1,024; cells C from 1 to 1,800', 'Length is 16 + 6P + 32C bytes exactly'
  pub fitting : Fitting s (page_count_of s) (cells_of s)
  -- 'byte 0 is 1 (edition), byte 1 zero', '10-11 zero'
  pub edition : part s 0 2 ≡ 1 ∷ 0 ∷ []
  pub gap : part s 10 2 ≡ 0 ∷ 0 ∷ []
  -- 'A page of sum s has ceil(R(64, s) / 240) cells, none for sum 0': the chain of so many cells runs from the first cell to its end
  pub page-chain : (p : ℕ) → p < page_count_of s → Runs s (cells_start (page_count_of s)) (first_in s p) (chain_in s (page_count_of s) p)
  -- 'Its code runs along its chain, unused bits zero': it is the code of the counts that it says, and these have the page's sum
  pub page-code : (p : ℕ) → p < page_count_of s → code_in s (cells_start (page_count_of s)) (chain_in s (page_count_of s) p) ≡ page_bytes (page_in s (page_count_of s) p)
  pub page-sum : (p : ℕ) → p < page_count_of s → sum (page_in s (page_count_of s) p) ≡ sum_in s p
  -- 'Hours from N on are zero'
  pub beyond : (p j : ℕ) → p < page_count_of s → j < page_hours → hours_in s ≤ page_hours * p + j → get_or (page_in s (page_count_of s) p) j 0 ≡ 0
  -- 'first free cell', 'number of free cells': the free chain of so many cells runs to its end; 'Free cells hold 30 zero bytes'
  pub free-chain : Runs s (cells_start (page_count_of s)) (number_at s 6 2) (spare_in s (page_count_of s))
  pub free-clear : code_in s (cells_start (page_count_of s)) (spare_in s (page_count_of s)) ≡ replicate (30 * number_at s 8 2) 0
  -- 'N ≤ 64P, the total fits'
  pub hours : hours_in s ≤ page_hours * page_count_of s
  pub total : sum (tabulate (page_count_of s) (sum_in s)) ≤ max_total
  -- 'each cell is on exactly one chain': each number 1 to C once, no other, and so C in all
  pub once : (c : ℕ) → occurrences c (on_all s) ≡ is_cell (cells_of s) c
  pub all : length (on_all s) ≡ cells_of s
