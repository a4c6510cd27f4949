-- A page's bytes, when they are sound. Assumes nothing.
use Rattle.std.specs.Prelude.{Bool, List, [], ◌∷◌, ℕ, ◌<◌, eqb}
use Rattle.lists.specs.Lists.{every, same, sum}
use Rattle.store.specs.Limits.{max_pages}
use Rattle.store.specs.PageCode.{page_bytes, counts_in_page}
use Rattle.store.specs.Code.Checked.{quiet}

-- what is handed to the functions on a page, beside the code of its cells at the front of the bytes of eight cells: its sum and number, and N
pub record HandedPage (s p N : ℕ) : Type 0 where
  pub small : s < 4294967296
  pub page : p < max_pages
  pub hours : N < 4294967296

-- 'Its code runs along its chain, unused bits zero. Hours from N on are zero': the bytes are those that page p of sum s has by its counts
unfoldable pub page_code_fits : List ℕ → ℕ → ℕ → ℕ → Bool
page_code_fits bytes s p N =
    every
    (eqb (sum (counts_in_page s bytes)) s
    ∷ same bytes (page_bytes (counts_in_page s bytes))
    ∷ same (counts_in_page s bytes) (quiet N p (counts_in_page s bytes))
    ∷ [])
