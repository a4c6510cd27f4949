-- Document 01, 'The plain list', with the day, insert and strike of document 02: its state, its calls, its refusals in order. It knows nothing
-- of the store's bytes. Assumes nothing.
use Rattle.std.specs.Prelude.{not, List, [], ◌∷◌, ◌++◌, ℕ, suc, ◌+◌, ◌-◌, ◌*◌, length, get_or, take, drop, set, leb, ltb}
use Rattle.answers.specs.Refusals.{above_total, cells_short, changes_wrong, log_full, not_logged, total_too_high}
use Rattle.lists.specs.Lists.{tabulate, sum, pick, reading, reached}
use Rattle.answers.specs.Store.{Answer, answered, changed, refused}
use Rattle.days.specs.Days.{changes_fit, day_end, day_start}
use Rattle.store.specs.Limits.{max_total, page_hours}
use Rattle.store.specs.PageCode.{cells}

-- 'State: a list of counts, empty at first, and the P and C that fresh was given'
pub record Plain : Type 0 where
  pub pages : ℕ
  pub cells : ℕ
  pub counts : List ℕ

pub data Call : Type 0 where
  Append : ℕ → Call
  Set : ℕ → ℕ → Call
  Insert : ℕ → ℕ → Call
  Strike : ℕ → Call
  Count : ℕ → Call
  Reading : ℕ → Call
  Reach : ℕ → Call
  -- document 02, note 4: 'the plain list's day event takes the same pairs'
  Day : (d : ℕ) (changes : List ℕ) → Call
  Free : Call

-- the answer, and the list afterwards, whole
pub record Outcome : Type 0 where
  pub answer : Answer
  pub list : Plain

-- the list with other counts
abbrev pub relisted : Plain → List ℕ → Plain
relisted L ys = record { pages = L.pages; cells = L.cells; counts = ys }

-- 'a refused call changes nothing', and a question does not either
abbrev pub refuse : ℕ → Plain → Outcome
refuse k L = record { answer = refused k; list = L }

abbrev pub tell : ℕ → Plain → Outcome
tell n L = record { answer = answered n; list = L }

-- 'page p has hours 64p to 64p + 63': its 64 counts, zero from the list's end on
unfoldable pub page : List ℕ → ℕ → List ℕ
page xs p = tabulate page_hours (λ j. get_or xs (page_hours * p + j) 0)

-- 'Need is the sum of the pages' cells by the formula': that of P pages
unfoldable pub need : List ℕ → ℕ → ℕ
need xs P = sum (tabulate P (λ p. cells (sum (page xs p))))

-- '3 if the total would pass its limit, 12 if the new need is above C', else the list becomes ys. 'An accepted append or set answers the
-- rise and the fall of need'; an insert or a strike 'the rise and the fall of the whole need'
unfoldable pub change : Plain → List ℕ → Outcome
change L ys =
    let old = need L.counts L.pages in
    let new = need ys L.pages in
    pick (ltb max_total (sum ys)) (refuse total_too_high L)
    (pick (ltb L.cells new) (refuse cells_short L) (record { answer = changed (new - old) (old - new); list = relisted L ys }))

-- Document 02, note 5: 'insert v before hour i', 'strike hour i'
unfoldable pub inserted : List ℕ → ℕ → ℕ → List ℕ
inserted xs i v = take i xs ++ (v ∷ drop i xs)

unfoldable pub struck : List ℕ → ℕ → List ℕ
struck xs i = take i xs ++ drop (suc i) xs

-- what each call answers, and the list afterwards: the refusals first, in the documents' order
unfoldable pub step : Call → Plain → Outcome
-- 'refused 11 if 64P hours are logged'
step (Append v) L = pick (leb (page_hours * L.pages) (length L.counts)) (refuse log_full L) (change L (L.counts ++ v ∷ []))
-- '7 if i ≥ N'
step (Set i v) L = pick (leb (length L.counts) i) (refuse not_logged L) (change L (set L.counts i v))
-- 'insert v before hour i (i from 0 to N), and strike hour i (i below N)': 'Refusals 10, 7, 11, 3 and 12 apply in that order'
step (Insert i v) L =
    pick (ltb (length L.counts) i) (refuse not_logged L)
    (pick (leb (page_hours * L.pages) (length L.counts)) (refuse log_full L) (change L (inserted L.counts i v)))
step (Strike i) L = pick (leb (length L.counts) i) (refuse not_logged L) (change L (struck L.counts i))
step (Count i) L = pick (leb (length L.counts) i) (refuse not_logged L) (tell (get_or L.counts i 0) L)
-- '7 if i > N'
step (Reading i) L = pick (ltb (length L.counts) i) (refuse not_logged L) (tell (reading L.counts i) L)
-- '8 if p is above the total'
step (Reach p) L = pick (ltb (sum L.counts) p) (refuse above_total L) (tell (reached p L.counts) L)
-- the reading at the day's end minus that at its start; note 4: 'refusal 16 before its 7', '7 now stands for a day whose end is above N'
step (Day d cs) L =
    pick (not (changes_fit cs)) (refuse changes_wrong L)
    (pick (ltb (length L.counts) (day_end cs d)) (refuse not_logged L)
    (tell (reading L.counts (day_end cs d) - reading L.counts (day_start cs d)) L))
-- 'C - need'
step Free L = tell (L.cells - need L.counts L.pages) L

-- the plain list after a call
unfoldable pub next : Call → Plain → Plain
next c L = (step c L).list

-- after a list of calls, and what these are answered, one by one
unfoldable pub plain_end : List Call → Plain → Plain
plain_end [] L = L
plain_end (c ∷ cs) L = plain_end cs (next c L)

unfoldable pub plain_answers : List Call → Plain → List Answer
plain_answers [] L = []
plain_answers (c ∷ cs) L = (step c L).answer ∷ plain_answers cs (next c L)

-- the list that fresh starts
abbrev pub plain_fresh : ℕ → ℕ → Plain
plain_fresh P C = record { pages = P; cells = C; counts = [] }
