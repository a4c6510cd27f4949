-- How many cells are marked: a walk marks as many as it passes, so that where every cell has its mark, the chains have all cells.
-- Assumes nothing.
use Rattle.std.specs.Prelude.{Some}
use mathlib.Core.Path.{◌≡◌, refl, sym, ap, ◌∙◌}
use mathlib.Core.Bool.{true, ◌&&◌}
use mathlib.Core.List.{List}
use Prim.Native.Nat.{ℕ, zero, suc, ◌+◌, ◌≤◌, ◌<◌}
use native.Mathlib.Omega.{arith}
use lib.ListN.{length, get_or, set, replicate, length-replicate, length-set}
use lib.Seq.{get_or-set_other, get_or-set_same}
use lib.Dec.{leb, eqb}
use borrow.Author.Tests.{eqb-true, leb-true}
use Rattle.lists.specs.Lists.{every, sum, tabulate}
use Rattle.lists.proofs.Sums.{sum-nones, sum-tabulate-one}
use Rattle.lists.proofs.Tables.{tabulate-ext}
use Rattle.lists.proofs.Tests.{left, right, same-is}
use Rattle.lists.proofs.Zeros.{zeros-at}
use Rattle.bits.specs.Numbers.{number_at}
use Rattle.store.specs.Layout.{cell_at, cells_start, entry_at}
use Rattle.store.specs.PageCode.{cells}
use Rattle.store.specs.Reading.{sum_in}
use Rattle.store.specs.Limits.{max_cells}
use Rattle.store.specs.Code.Checked.{Walk, cell_test, check_pages, go_on, marks_length, page_tests, walk_marks}
use Rattle.store.proofs.CheckChain.{goes_on, goes_then, whole_is}
use Rattle.sound_free.specs.Code.Free.{every_cell_marked}

abbrev marked : ℕ → List ℕ → ℕ
marked C m = sum (tabulate C (λ j. get_or m (suc j) 0))

-- a mark more
mark-one : (C : ℕ) (m : List ℕ) (c : ℕ) → 1 ≤ c → c ≤ C → C < length m → get_or m c 0 ≡ 0 → marked C (set m c 1) ≡ marked C m + 1
mark-one C m zero l u n e = absurd (omega arith)
mark-one C m (suc c) l u n e =
    omega (
      arith,
      sum-tabulate-one C (λ j. get_or (set m (suc c) 1) (suc j) 0) (λ j. get_or m (suc j) 0) c (omega arith)
          (λ j q. get_or-set_other m (suc c) (suc j) 1 0 (λ r. q (omega (arith, r)))),
      get_or-set_same m (suc c) 1 0 (omega arith),
    )

-- marks m' are k more than m
abbrev More : ℕ → List ℕ → List ℕ → ℕ → Type 0
More C m m' k = (marked C m' ≡ marked C m + k) × (length m' ≡ length m)

module _ (s : List ℕ) (P C N : ℕ) where
  walk-marks : (k : ℕ) (m m' : List ℕ) (a : ℕ) → C < length m → walk_marks s (cells_start P) C k m a ≡ Some m' → More C m m' k
  unfolding walk_marks
  walk-marks zero m m' a l h =
      let e : m ≡ m' = whole_is m m' (goes_on (eqb (number_at s a 2) 0) (Some m) m' h).1 in
      (ap (marked C) (sym e) ∙ omega arith, ap length (sym e))
  walk-marks (suc k) m m' a l h =
      let c : ℕ = number_at s a 2 in
      let w = goes_on (cell_test C m c) (walk_marks s (cells_start P) C k (set m c 1) (cell_at (cells_start P) c)) m' h in
      let r = right (leb 1 c) (leb c C && eqb (get_or m c 0) 0) w.0 in
      let low : 1 ≤ c = leb-true 1 c (left (leb 1 c) (leb c C && eqb (get_or m c 0) 0) w.0) in
      let high : c ≤ C = leb-true c C (left (leb c C) (eqb (get_or m c 0) 0) r) in
      let none : get_or m c 0 ≡ 0 = eqb-true (get_or m c 0) 0 (right (leb c C) (eqb (get_or m c 0) 0) r) in
      let v = walk-marks k (set m c 1) m' (cell_at (cells_start P) c) (omega (arith, length-set m c 1)) w.1 in
      (omega (arith, v.0, mark-one C m c low high l none), v.1 ∙ length-set m c 1)

  pages-marks : (n p : ℕ) (m m' : List ℕ) → C < length m → check_pages s P C N n p m ≡ Some m'
      → More C m m' (sum (tabulate n (λ j. cells (sum_in s (p + j)))))
  unfolding check_pages tabulate sum
  pages-marks zero p m m' l h = let e : m ≡ m' = whole_is m m' h in (ap (marked C) (sym e) ∙ omega arith, ap length (sym e))
  pages-marks (suc n) p m m' l h =
      let f : List ℕ → Walk = λ m₁. go_on (every (page_tests s P N p)) (check_pages s P C N n (suc p) m₁) in
      let w = goes_then (walk_marks s (cells_start P) C (cells (sum_in s p)) m (entry_at p + 4)) f m' h in
      let g = goes_on (every (page_tests s P N p)) (check_pages s P C N n (suc p) w.0) m' w.2 in
      let u = walk-marks (cells (sum_in s p)) m w.0 (entry_at p + 4) l w.1 in
      let v = pages-marks n (suc p) w.0 m' (omega (arith, u.1)) g.1 in
      let here : cells (sum_in s (p + 0)) ≡ cells (sum_in s p) = ap (λ (z : ℕ). cells (sum_in s z)) {x = p + 0} {y = p} (omega arith) in
      let next : tabulate n (λ j. cells (sum_in s (p + suc j))) ≡ tabulate n (λ j. cells (sum_in s (suc p + j))) =
      tabulate-ext n (λ j. cells (sum_in s (p + suc j))) (λ j. cells (sum_in s (suc p + j)))
      (λ j _. ap (λ (z : ℕ). cells (sum_in s z)) {x = p + suc j} {y = suc p + j} (omega arith)) in
      (omega (arith, u.0, v.0, here, ap sum next), v.1 ∙ u.1)

-- no marks, and marks on all cells
sum_ones : (n : ℕ) → sum (replicate n 1) ≡ n
unfolding sum
sum_ones zero = refl
sum_ones (suc n) = omega (arith, sum_ones n)

-- where every cell is marked, the pages and the free chain, of f cells, have as many cells as there are
pub number-all : (s : List ℕ) (P C N f : ℕ) (m m' : List ℕ) → C ≤ max_cells → check_pages s P C N P 0 (replicate marks_length 0) ≡ Some m
    → walk_marks s (cells_start P) C f m 6 ≡ Some m' → every_cell_marked C m' ≡ true → sum (tabulate P (λ p. cells (sum_in s p))) + f ≡ C
unfolding every_cell_marked
number-all s P C N f m m' l h w e =
    let z : C < length (replicate {A = ℕ} marks_length 0) = omega (arith, length-replicate {A = ℕ} marks_length 0) in
    let u = pages-marks s P C N P 0 (replicate marks_length 0) m z h in
    let v = walk-marks s P C N f m m' 6 (omega (arith, u.1)) w in
    let t : tabulate P (λ j. cells (sum_in s (0 + j))) ≡ tabulate P (λ p. cells (sum_in s p)) =
    tabulate-ext P (λ j. cells (sum_in s (0 + j))) (λ p. cells (sum_in s p))
    (λ j _. ap (λ (z : ℕ). cells (sum_in s z)) {x = 0 + j} {y = j} (omega arith)) in
    let nothing : marked C (replicate marks_length 0) ≡ 0 =
    sum-nones C (λ j. get_or (replicate {A = ℕ} marks_length 0) (suc j) 0) (λ j. zeros-at marks_length (suc j)) in
    omega (arith, u.0, v.0, ap sum t, nothing, ap sum (same-is _ _ e), sum_ones C)
