-- A page, judged with the marks of the cells of pages kept earlier and their total. Assumes nothing.
use Rattle.std.specs.Prelude.{Bool, ◌&&◌, List, ◌≡◌, ℕ, ◌+◌, ◌≤◌, ◌<◌, leb}
use Rattle.lists.specs.Lists.{pick}
use Rattle.store.specs.Limits.{max_total}
use Rattle.store.specs.Fitting.{Fitting}
use Rattle.store.specs.Layout.{cells_start}
use Rattle.store.specs.PageCode.{cells}
use Rattle.store.specs.Reading.{cells_of, chain_in, code_in, first_in, hours_in, page_count_of, sum_in}
use Rattle.store.proofs.CheckChain.{mark_all}
use Rattle.sound_page.specs.Code.Page.{page_code_fits}
use Rattle.repair_pages.specs.Code.Chain.{chain_kept}

-- page p is kept, where the cells of the pages kept before it are marked in m, and total is theirs
unfoldable pub kept_by : List ℕ → List ℕ → ℕ → ℕ → Bool
kept_by s m total p =
    leb (total + sum_in s p) max_total
    && (chain_kept s (cells_start (page_count_of s)) (cells_of s) m (cells (sum_in s p)) (first_in s p)
    && page_code_fits (code_in s (cells_start (page_count_of s)) (chain_in s (page_count_of s) p)) (sum_in s p) p (hours_in s))

-- what is asked of the page p and the total in a store s, whose C cells start at base and whose header says N hours
pub record Judging (s : List ℕ) (base C N p total : ℕ) : Type 0 where
  pub base-is : base ≡ cells_start (page_count_of s)
  pub cells_is : C ≡ cells_of s
  pub hours-is : N ≡ hours_in s
  pub hours-small : N < 4294967296
  pub fitting : Fitting s (page_count_of s) (cells_of s)
  pub inside : p < page_count_of s
  pub fits : total ≤ max_total

-- r says whether the page is kept; then its cells are marked too
pub record Judged (s m : List ℕ) (p total : ℕ) (r : Bool) (m' : List ℕ) : Type 0 where
  pub is : r ≡ kept_by s m total p
  pub marked : m' ≡ pick r (mark_all m (chain_in s (page_count_of s) p)) m
