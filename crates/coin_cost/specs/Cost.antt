-- Document 02, note 6, 'How much memory one more coin costs'. Assumes nothing.
use Rattle.std.specs.Prelude.{List, ◌≡◌, ℕ, ◌+◌, ◌-◌, ◌*◌, min, ◌≤◌, ◌<◌, length, get_or, set}
use Rattle.lists.specs.Lists.{sum, tabulate}
use Rattle.reserve.specs.Reserve.{ceil, reserve}
use Rattle.answers.specs.Store.{Answer, answered, changed, refused}
use Rattle.store.specs.PageCode.{cells}
use Rattle.store.specs.Plain.{Append, Call, Set, page, step}
use Rattle.store.specs.Limits.{max_total}
use Rattle.store.specs.Reading.{list_in, read}
use Rattle.store.specs.Call.{call}

-- 'at most ceil(d / 40) more cells, or eight if that is less': what d more coins may take
unfoldable pub cells_for : ℕ → ℕ
cells_for d = min (ceil d 40) 8

-- d more coins in hour j
abbrev pub more : List ℕ → ℕ → ℕ → List ℕ
more xs j d = set xs j (get_or xs j 0 + d)

-- the coins that hour i gains when its count becomes v: none where that lowers it
unfoldable pub gain : List ℕ → ℕ → ℕ → ℕ
gain xs i v = v - get_or xs i 0

-- a call that changes the count of one hour of the list xs, and the coins that this hour gains
pub data Gains : Call → List ℕ → ℕ → Type 0 where
  by_append : (v : ℕ) (xs : List ℕ) → Gains (Append v) xs v
  by-set : (i v : ℕ) (xs : List ℕ) → Gains (Set i v) xs (gain xs i v)

-- a change that took at most k cells, or a refusal
abbrev pub TakesAtMost : ℕ → Answer → Type 0
TakesAtMost k (changed rise fall) = rise ≤ k
TakesAtMost k (answered n) = ⊥
TakesAtMost k (refused j) = Unit {0}

-- the coins that page p gains when the list xs becomes ys
unfoldable pub page_gain : List ℕ → List ℕ → ℕ → ℕ
page_gain xs ys p = sum (page ys p) - sum (page xs p)

-- The whole claim
pub record CoinCost : Type 0 where
  -- 'for every page and every d .. d more coins in one hour take at most ceil(d / 40) more cells': of a page with counts xs, in its hour j
  pub forty : (xs : List ℕ) (j d : ℕ) → j < length xs → cells (sum (more xs j d)) ≤ cells (sum xs) + ceil d 40
  -- 'or eight if that is less', within document 01's limit of coins, which every accepted call keeps
  pub lesser : (xs : List ℕ) (j d : ℕ) → j < length xs → sum xs + d ≤ max_total → cells (sum (more xs j d)) ≤ cells (sum xs) + cells_for d
  -- 'a page with twice the sum reserves at most 63 more bits'
  pub twice : (s : ℕ) → reserve 6 (2 * s) ≤ reserve 6 s + 63
  -- 'The append and set calls then promise the first figure': on any bytes
  pub calls : (c : Call) (s : List ℕ) (d : ℕ) → Gains c (list_in s) d → TakesAtMost (cells_for d) (call c s).answer
  -- any accepted change, also one that moves hours from page to page: what the pages that gain coins may take, together
  pub changes : (c : Call) (s : List ℕ) (r f : ℕ) → (call c s).answer ≡ changed r f
      → r ≤ sum (tabulate (read s).plain.pages (λ p. cells_for (page_gain (list_in s) (step c (read s).plain).list.counts p)))
