-- A change of many pages, page by page: the models between. Assumes nothing.
use Rattle.std.specs.Prelude.{Bool, true, false, List, ℕ, ◌*◌, ◌/◌, ◌%◌, min, length, get_or, eqb, leb, ltb}
use Rattle.lists.specs.Lists.{pick, tabulate}
use Rattle.store.specs.Limits.{page_hours}
use Rattle.store.specs.Plain.{relisted}
use Rattle.store.specs.Layout.{Model}
use Rattle.store.specs.OneCell.{chain_of}
use Rattle.store.specs.Settle.{pagewise, shrunk, size_to, wanted, with_list}

-- the list xs, with zeros to 64P hours and the counts x as its page p
unfoldable pub repaged : ℕ → List ℕ → ℕ → List ℕ → List ℕ
repaged P xs p x = tabulate (page_hours * P) (λ h. pick (eqb (h / page_hours) p) (get_or x (h % page_hours) 0) (get_or xs h 0))

-- 64P hours: those of a page that has moved are of ys, the others of xs
unfoldable pub mixed : ℕ → List ℕ → List ℕ → (ℕ → Bool) → List ℕ
mixed P xs ys moved = tabulate (page_hours * P) (λ h. pick (moved (h / page_hours)) (get_or ys h 0) (get_or xs h 0))

-- page q does not grow when the list xs becomes ys
abbrev pub no_growth : List ℕ → List ℕ → ℕ → Bool
no_growth xs ys q = leb (wanted ys q) (wanted xs q)

-- There are two passes over the pages, the lowest page first: in the first those move that do not grow, in the second (late) the others.
-- Whether page q has moved when the pass has come to page n
unfoldable pub has_moved : Bool → List ℕ → List ℕ → ℕ → ℕ → Bool
has_moved late xs ys n q = pick (ltb q n) (pick late true (no_growth xs ys q)) (pick late (no_growth xs ys q) false)

-- the cells that page p has when it is passed
unfoldable pub passed_cells : Bool → Model → List ℕ → ℕ → ℕ
passed_cells late m ys p = pick late (wanted ys p) (min (length (chain_of m p)) (wanted ys p))

-- the model of a store whose list is to become ys, when the pass has come to page n. Its list is 64P hours long: no page is cut off
unfoldable pub moving : Bool → Model → List ℕ → ℕ → Model
moving late m ys n =
    with_list (relisted m.plain (mixed m.plain.pages m.plain.counts ys (has_moved late m.plain.counts ys n)))
    (pagewise n (λ p. size_to p (passed_cells late m ys p)) (pick late (shrunk m ys) m))
