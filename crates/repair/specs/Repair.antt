-- Document 02, note 10: a store brought back to sound. Assumes nothing.
use Rattle.std.specs.Prelude.{Bool, true, not, ◌&&◌, List, [], ◌∷◌, ◌++◌, ◌≡◌, ℕ, zero, suc, ◌+◌, length, take, drop, replicate, eqb, leb}
use Rattle.lists.specs.Lists.{concat, every, occurrences, pick, same, sum, tabulate}
use Rattle.bits.specs.Numbers.{number_at}
use Rattle.answers.specs.Refusals.{not_repairable}
use Rattle.answers.specs.Store.{Answer, answered, refused}
use Rattle.store.specs.Limits.{max_total, page_hours}
use Rattle.store.specs.PageCode.{cells, page_bytes}
use Rattle.store.specs.Layout.{Model, bytes_of, cell_at, cells_start}
use Rattle.store.specs.Reading.{cells_of, chain_in, code_in, first_in, hours_in, page_in, page_count_of, sum_in}
use Rattle.store.specs.Shape.{shape_tests}
use Rattle.store.specs.Sound.{within}
use Rattle.store.specs.Code.Checked.{quiet}

-- ---- which pages are kept
-- the number behind k cells, from the number c on: 0 where a chain of k cells ends
unfoldable pub behind : List ℕ → ℕ → ℕ → ℕ → ℕ
behind s base zero c = c
behind s base (suc k) c = behind s base k (number_at s (cell_at base c) 2)

-- none of the cells is in use
unfoldable pub unused : List ℕ → List ℕ → Bool
unused used [] = true
unused used (c ∷ cs) = eqb (occurrences c used) 0 && unused used cs

-- what the pages kept so far have: their cells, and their total
pub record Kept : Type 0 where
  pub cells : List ℕ
  pub total : ℕ

-- 'Keep a page if its chain has the length its sum asks for, names only cells 1 to C, ends in 0, uses no cell of a page kept earlier, its tree
-- has no damage or stray bits, its hours from N on are zero, and the total of kept pages fits': page p of the bytes s, behind pages of which k
-- is kept
unfoldable pub keep_tests : List ℕ → Kept → ℕ → List Bool
keep_tests s k p =
    let P = page_count_of s in
    -- the chain of so many cells as the sum asks for ends there
    eqb (behind s (cells_start P) (cells (sum_in s p)) (first_in s p)) 0
    ∷ within (cells_of s) (chain_in s P p)
    ∷ unused k.cells (chain_in s P p)
    -- the cells hold the code of the counts that they say, and zeros; these counts have the page's sum
    ∷ eqb (sum (page_in s P p)) (sum_in s p)
    ∷ same (code_in s (cells_start P) (chain_in s P p)) (page_bytes (page_in s P p))
    ∷ same (page_in s P p) (quiet (hours_in s) p (page_in s P p))
    ∷ leb (k.total + sum_in s p) max_total
    ∷ []

unfoldable pub keeps : List ℕ → Kept → ℕ → Bool
keeps s k p = every (keep_tests s k p)

-- one page more
unfoldable pub passed : List ℕ → Kept → ℕ → Kept
passed s k p = pick (keeps s k p) (record { cells = k.cells ++ chain_in s (page_count_of s) p; total = k.total + sum_in s p }) k

-- 'Go through the pages from page 0': what is kept of the pages before page p
unfoldable pub kept_of : List ℕ → ℕ → Kept
kept_of s zero = record { cells = []; total = 0 }
kept_of s (suc p) = passed s (kept_of s p) p

-- page p is kept
unfoldable pub is_kept : List ℕ → ℕ → Bool
is_kept s p = keeps s (kept_of s p) p

-- ---- the store afterwards
-- those of the n numbers from a on for which f holds, rising
unfoldable pub sieve : (ℕ → Bool) → ℕ → ℕ → List ℕ
sieve f a zero = []
sieve f a (suc n) = pick (f a) (a ∷ sieve f (suc a) n) (sieve f (suc a) n)

-- 'Other pages become zero': a kept page has the counts and the chain that its bytes say, another 64 times 0 and no cells
unfoldable pub kept_counts : List ℕ → ℕ → List ℕ
kept_counts s p = pick (is_kept s p) (page_in s (page_count_of s) p) (replicate page_hours 0)

unfoldable pub kept_chain : List ℕ → ℕ → List ℕ
kept_chain s p = pick (is_kept s p) (chain_in s (page_count_of s) p) []

-- the cells of the kept pages
abbrev pub used_cells : List ℕ → List ℕ
used_cells s = (kept_of s (page_count_of s)).cells

-- the same P, C and N. 'The remaining cells are cleared and chained in rising order'
unfoldable pub repaired : List ℕ → Model
repaired s = record {
  plain = record { pages = page_count_of s; cells = cells_of s; counts = take (hours_in s) (concat (tabulate (page_count_of s) (kept_counts s))) };
  chains = tabulate (page_count_of s) (kept_chain s);
  spare = sieve (λ c. eqb (occurrences c (used_cells s)) 0) 1 (cells_of s);
}

-- 'their numbers are listed .. in rising order'
unfoldable pub lost_pages : List ℕ → List ℕ
lost_pages s = sieve (λ p. not (is_kept s p)) 0 (page_count_of s)

-- ---- the call
-- 'its only refusal is 18, for a wrong store length, a header with byte 0, byte 1, bytes 10-11, P, C or N out of document 01's rules, or a list
-- buffer shorter than P entries': what bytes s and a list of n entries must be
unfoldable pub repair_tests : List ℕ → ℕ → List Bool
repair_tests s n = shape_tests s ++ leb (page_count_of s) n ∷ []

unfoldable pub repairable : List ℕ → ℕ → Bool
repairable s n = every (repair_tests s n)

-- what it answers, and the store's bytes and the list's entries afterwards
pub record Outcome : Type 0 where
  pub answer : Answer
  pub bytes : List ℕ
  pub list : List ℕ

-- 'listed from the start of a lent buffer'; 'The result is how many were listed; later entries of that buffer are unchanged'
unfoldable pub repair_call : List ℕ → List ℕ → Outcome
repair_call s b =
    pick (repairable s (length b)) (record {
      answer = answered (length (lost_pages s));
      bytes = bytes_of (repaired s);
      list = lost_pages s ++ drop (length (lost_pages s)) b;
    })
    (record { answer = refused not_repairable; bytes = s; list = b })

-- the answer r, the bytes t and the entries d are those of the repair of the store s with the list b
pub record Repairs (s b : List ℕ) (r : Answer) (t d : List ℕ) : Type 0 where
  pub answer : r ≡ (repair_call s b).answer
  pub bytes : t ≡ (repair_call s b).bytes
  pub list : d ≡ (repair_call s b).list
