-- An hour inserted or struck, page by page. Assumes nothing.
use Rattle.std.specs.Prelude.{true, List, ◌≡◌, ℕ, ◌+◌, ◌-◌, ◌*◌, ◌≤◌, ◌<◌, length, get_or, eqb, ltb}
use Rattle.lists.specs.Lists.{pick, sum}
use Rattle.store.specs.Limits.{max_pages, max_total, page_hours}
use Rattle.store.specs.Plain.{inserted, need, page, struck}
use Rattle.store.specs.Reading.{list_in, page_count_of}
use Rattle.store.specs.Settle.{wanted}
use Rattle.store.specs.Sound.{sound}
use Rattle.move_counts.specs.Code.Turned.{leaving_index, turned}
use Rattle.move_plan.specs.declared.shift.Shift.{Shift}
use Rattle.move_counts.specs.declared.Edit.{Edit}
use Rattle.move_counts.specs.declared.Edit.TheVariants.{Insert, Strike}

-- the list xs when hour i is edited
unfoldable pub edited : Edit → List ℕ → ℕ → List ℕ
edited (Insert v) xs i = inserted xs i v
edited Strike xs i = struck xs i

-- the list afterwards
unfoldable pub shifted : Shift → List ℕ → List ℕ
shifted m xs = edited m.edit xs (page_hours * m.first + m.at)

-- the index in page q from which its counts move
unfoldable pub near : Shift → ℕ → ℕ
near m q = pick (eqb q m.first) m.at 0

-- the count that leaves page q
unfoldable pub leaves_page : Shift → List ℕ → ℕ → ℕ
leaves_page m xs q = get_or (page xs q) (leaving_index m.edit (near m q)) 0

-- the count that comes into page q of those from `first` to `end`, where `leaving` has the counts that leave the pages
unfoldable pub comes_in : Edit → ℕ → ℕ → List ℕ → ℕ → ℕ
comes_in (Insert v) first end leaving q = pick (eqb q first) v (get_or leaving (q - 1) 0)
comes_in Strike first end leaving q = pick (ltb (q + 1) end) (get_or leaving (q + 1) 0) 0

-- the same of a shift
unfoldable pub comes_to : Shift → List ℕ → ℕ → ℕ
comes_to m leaving q = comes_in m.edit m.first m.end leaving q

-- `leaving` has them from the first page that moves to page n
abbrev pub Leaves : Shift → List ℕ → List ℕ → ℕ → Type 0
Leaves m xs leaving n = (q : ℕ) → m.first ≤ q → q < n → get_or leaving q 0 ≡ leaves_page m xs q

-- `few` has the cells that a list asks for at these pages
abbrev pub Counted : Shift → List ℕ → List ℕ → ℕ → Type 0
Counted m xs few n = (q : ℕ) → m.first ≤ q → q < n → get_or few q 0 ≡ wanted xs q

-- a shift that a sound store can make, but for its cells: the pages that move, and that all others stay
pub record Shiftable (s : List ℕ) (m : Shift) : Type 0 where
  pub is-sound : sound s ≡ true
  pub within : m.at < page_hours
  pub some : m.first < m.end
  pub inside : m.end ≤ page_count_of s
  pub below : (q : ℕ) → q < m.first → page (shifted m (list_in s)) q ≡ page (list_in s) q
  pub moves : (q : ℕ) → m.first ≤ q → q < m.end → (leaving : List ℕ) → Leaves m (list_in s) leaving m.end
      → page (shifted m (list_in s)) q ≡ turned m.edit (page (list_in s) q) (near m q) (comes_to m leaving q)
  pub above : (q : ℕ) → m.end ≤ q → page (shifted m (list_in s)) q ≡ page (list_in s) q
  pub total : sum (shifted m (list_in s)) ≤ max_total
  pub hours : length (shifted m (list_in s)) ≤ page_hours * page_count_of s

-- the cells that the pages which move have and are to have: what the need rises or falls by
pub record Needs (s : List ℕ) (m : Shift) (had asked : ℕ) : Type 0 where
  pub moved : need (shifted m (list_in s)) (page_count_of s) + had ≡ need (list_in s) (page_count_of s) + asked
  pub had-low : had ≤ need (list_in s) (page_count_of s)
  pub asked_low : asked ≤ 8 * max_pages
