-- Document 02, note 10, sentence by sentence: which page is kept, which proofs/ClauseLaws.antt shows to be `is_kept`; and what a repair leaves, which
-- proofs/Determined.antt shows to be what `repair_call` does and nothing else. Assumes nothing.
use Rattle.std.specs.Prelude.{true, List, [], ◌∷◌, ◌↔◌, ◌≡◌, ℕ, suc, ◌+◌, ◌*◌, ◌≤◌, ◌<◌, length, get_or, take, drop, replicate}
use Rattle.lists.specs.Lists.{occurrences, pick, sum, tabulate}
use Rattle.store.specs.Layout.{cells_start}
use Rattle.store.specs.Limits.{max_total, page_hours}
use Rattle.store.specs.PageCode.{page_bytes}
use Rattle.store.specs.Plain.{page}
use Rattle.store.specs.Reading.{Runs, cells_of, chain_in, code_in, first_in, hours_in, list_in, page_in, page_count_of, read, sum_in}
use Rattle.store.specs.Sound.{sound}
use Rattle.repair.specs.Repair.{is_kept}

-- page p of the bytes s: 'Keep a page if'
pub record KeptPage (s : List ℕ) (p : ℕ) : Type 0 where
  -- 'its chain has the length its sum asks for', 'ends in 0': the chain of so many cells runs from the first cell to its end
  pub chain : Runs s (cells_start (page_count_of s)) (first_in s p) (chain_in s (page_count_of s) p)
  -- 'names only cells 1 to C'
  pub cells : (c : ℕ) → 1 ≤ occurrences c (chain_in s (page_count_of s) p) → (1 ≤ c) × (c ≤ cells_of s)
  -- 'uses no cell of a page kept earlier'
  pub apart : (q c : ℕ) → q < p → is_kept s q ≡ true → 1 ≤ occurrences c (chain_in s (page_count_of s) q) → occurrences c (chain_in s (page_count_of s) p) ≡ 0
  -- 'its tree has no damage or stray bits': it is the code of the counts that it says, to the chain's end, and these have the page's sum
  pub code : code_in s (cells_start (page_count_of s)) (chain_in s (page_count_of s) p) ≡ page_bytes (page_in s (page_count_of s) p)
  pub page-sum : sum (page_in s (page_count_of s) p) ≡ sum_in s p
  -- 'its hours from N on are zero'
  pub beyond : (j : ℕ) → j < page_hours → hours_in s ≤ page_hours * p + j → get_or (page_in s (page_count_of s) p) j 0 ≡ 0
  -- 'and the total of kept pages fits', with this page and those kept earlier
  pub total : sum (tabulate p (λ q. pick (is_kept s q) (sum_in s q) 0)) + sum_in s p ≤ max_total

-- 'in rising order': the numbers of a list rise, none below a
abbrev pub Rising : ℕ → List ℕ → Type 0
Rising a [] = Unit {0}
Rising a (x ∷ xs) = (a ≤ x) × Rising (suc x) xs

-- what a repair that is not refused leaves: the store s and the list b become t and d, and n is the answer
pub record BroughtBack (s b t d : List ℕ) (n : ℕ) : Type 0 where
  -- 'The result is sound with the same N', and the same P and C
  pub sound-after : sound t ≡ true
  pub same_size : (hours_in t ≡ hours_in s) × (page_count_of t ≡ page_count_of s) × (cells_of t ≡ cells_of s)
  -- 'Keep a page if ..': it has the counts and the cells that its bytes said
  pub kept-after : (p : ℕ) → p < page_count_of s → KeptPage s p
      → (page (list_in t) p ≡ page_in s (page_count_of s) p) × (get_or (read t).chains p [] ≡ chain_in s (page_count_of s) p)
  -- 'Other pages become zero'
  pub zero-after : (p : ℕ) → p < page_count_of s → (KeptPage s p → ⊥) → (page (list_in t) p ≡ replicate 64 0) × (get_or (read t).chains p [] ≡ [])
  -- 'and their numbers are listed from the start of a lent buffer in rising order'
  pub listed-exactly : (p : ℕ) → (1 ≤ occurrences p (take n d)) ↔ ((p < page_count_of s) × (KeptPage s p → ⊥))
  pub listed-rising : Rising 0 (take n d)
  -- 'The result is how many were listed; later entries of that buffer are unchanged'
  pub listed-many : length (take n d) ≡ n
  pub later-entries : drop n d ≡ drop n b
  -- 'The remaining cells are cleared and chained in rising order': that the free chain has all other cells, cleared, is a clause of a sound store
  pub free-rising : Rising 1 (read t).spare
