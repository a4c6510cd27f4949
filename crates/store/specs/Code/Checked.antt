-- What the soundness check computes on its way along the bytes: the chains walked with marks, the tests of a page, the tests of the header.
-- That together they say `sound` is the law `verdict`. Assumes nothing.
use Rattle.std.specs.Prelude.{Option, Some, None, Bool, true, false, ◌&&◌, List, [], ◌∷◌, ◌++◌, ◌≡◌, ℕ, zero, suc, ◌+◌, ◌*◌, ◌≤◌, length, get_or, set, leb, ltb, eqb}
use Rattle.lists.specs.Lists.{every, pick, same, sum, tabulate}
use Rattle.bits.specs.Numbers.{Number, number_at}
use Rattle.store.specs.Layout.{cell_at, cells_start, entry_at, header_length}
use Rattle.store.specs.Limits.{max_cells, max_total, page_hours}
use Rattle.store.specs.PageCode.{cells, page_bytes}
use Rattle.store.specs.Shape.{shape_tests}
use Rattle.store.specs.Reading.{chain_in, code_in, page_in, page_count_of, sum_in}

-- a mark for each cell that a store may have, and one for 0, which is no cell
abbrev pub marks_length : ℕ
marks_length = suc max_cells

-- c is one of C cells, and has no mark
abbrev pub cell_test : ℕ → List ℕ → ℕ → Bool
cell_test C m c = leb 1 c && (leb c C && eqb (get_or m c 0) 0)

-- the cell that the link at a names, if it passes the test
abbrev pub Unmarked : List ℕ → ℕ → List ℕ → ℕ → Option ℕ → Type 0
Unmarked s C m a (Some c) = Number s a 2 c × (1 ≤ c) × (c ≤ C) × (cell_test C m c ≡ true)
Unmarked s C m a None = cell_test C m (number_at s a 2) ≡ false

-- a walk along chains: the marks that it leaves, or none, where it broke off at a fault
abbrev pub Walk : Type 0
Walk = Option (List ℕ)

-- it goes on where a test holds, and where the walk before it did not break off
unfoldable pub go_on : Bool → Walk → Walk
go_on true w = w
go_on false w = None

unfoldable pub and_then : Walk → (List ℕ → Walk) → Walk
and_then (Some m) f = f m
and_then None f = None

-- 'marks each cell once and ends at the first broken chain': k cells from the link at a on, each of them a cell without a mark; then the
-- chain ends
unfoldable pub walk_marks : List ℕ → ℕ → ℕ → ℕ → List ℕ → ℕ → Walk
walk_marks s base C zero m a = go_on (eqb (number_at s a 2) 0) (Some m)
walk_marks s base C (suc k) m a =
    go_on (leb 1 (number_at s a 2) && (leb (number_at s a 2) C && eqb (get_or m (number_at s a 2) 0) 0))
    (walk_marks s base C k (set m (number_at s a 2) 1) (cell_at base (number_at s a 2)))

-- the counts of page p, zero from hour N on
abbrev pub quiet : ℕ → ℕ → List ℕ → List ℕ
quiet N p xs = tabulate page_hours (λ j. pick (ltb (page_hours * p + j) N) (get_or xs j 0) 0)

-- a page's counts: 64 of them, of the page's sum, coded as the cells say, and zero from hour N on
unfoldable pub page_tests : List ℕ → ℕ → ℕ → ℕ → List Bool
page_tests s P N p =
    eqb (length (page_in s P p)) page_hours
    ∷ eqb (sum (page_in s P p)) (sum_in s p)
    ∷ same (code_in s (cells_start P) (chain_in s P p)) (page_bytes (page_in s P p))
    ∷ same (page_in s P p) (quiet N p (page_in s P p))
    ∷ []

-- n pages from p on
unfoldable pub check_pages : List ℕ → ℕ → ℕ → ℕ → ℕ → ℕ → List ℕ → Walk
check_pages s P C N zero p m = Some m
check_pages s P C N (suc n) p m =
    and_then (walk_marks s (cells_start P) C (cells (sum_in s p)) m (entry_at p + 4)) (λ m'. go_on (every (page_tests s P N p)) (check_pages s P C N n (suc p) m'))

-- what a walk's marks say; a walk that broke off says no
unfoldable pub ends-well : Walk → (List ℕ → Bool) → Bool
ends-well (Some m) f = f m
ends-well None f = false

-- the header's fields, the length and the total
unfoldable pub head_tests : List ℕ → List Bool
head_tests s =
    leb header_length (length s) ∷ shape_tests s ++ leb (sum (tabulate (page_count_of s) (sum_in s))) max_total ∷ []
