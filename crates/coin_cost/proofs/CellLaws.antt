-- More coins in a page, and its cells. Assumes nothing.
use mathlib.Core.Bool.{true}
use mathlib.Core.List.{List}
use mathlib.Core.Path.{◌≡◌, refl}
use Prim.Native.Nat.{ℕ, zero, suc, ◌+◌, ◌-◌, ◌*◌, ◌≤◌}
use native.Mathlib.Decide.{dec_le}
use native.Mathlib.Omega.{arith}
use Rattle.lists.specs.Lists.{same, sum, tabulate}
use Rattle.lists.proofs.Sums.{sum-two}
use Rattle.lists.proofs.Tests.{same-tabulate}
use Rattle.reserve.specs.Reserve.{ceil, reserve}
use Rattle.reserve.proofs.Fit.{grows, level}
use Rattle.store.specs.PageCode.{cells}
use Rattle.store.specs.Plain.{need, page}
use Rattle.store.specs.Limits.{max_total}
use Rattle.store.proofs.PageCodeLaws.{cells-most}
use Rattle.store.proofs.ReadBack.{page-le}
use Rattle.coin_cost.specs.Cost.{cells_for, page_gain}

-- ---- 122 coins, as many as a page's first cell holds, cost 240 bits at most: below 64 coins by computing, from there on a bit each
few : same (tabulate 64 (λ s. reserve 6 (s + 122) - (reserve 6 s + 240))) (tabulate 64 (λ s. 0)) ≡ true
unfolding same tabulate reserve
few = refl

bits-122 : (s : ℕ) → reserve 6 (s + 122) ≤ reserve 6 s + 240
bits-122 s = go (dec_le 64 s)
  where
    go : Dec (64 ≤ s) → reserve 6 (s + 122) ≤ reserve 6 s + 240
    go (yes l) = omega (arith, level 6 s 122 l)
    go (no g) =
        omega (arith, same-tabulate 64 (λ s. reserve 6 (s + 122) - (reserve 6 s + 240)) (λ s. 0) few s (omega arith))

cell-122 : (s : ℕ) → cells (s + 122) ≤ cells s + 1
unfolding cells ceil
cell-122 s = omega (arith, bits-122 s)

-- more coins, no fewer cells
pub cells-grow : (s s' : ℕ) → s ≤ s' → cells s ≤ cells s'
unfolding cells ceil
cells-grow s s' l = omega (arith, grows 6 s s' l)

cells-122 : (k s : ℕ) → cells (s + 122 * k) ≤ cells s + k
cells-122 zero s = omega (arith, cells-grow (s + 122 * 0) s (omega arith))
cells-122 (suc k) s =
    omega (arith, cells-122 k s, cell-122 (s + 122 * k), cells-grow (s + 122 * suc k) (s + 122 * k + 122) (omega arith))

-- ---- d more coins: at most ceil(d / 122) more cells
pub sharper : (s d : ℕ) → cells (s + d) ≤ cells s + ceil d 122
unfolding ceil
sharper s d =
    omega (arith, cells-122 (ceil d 122) s, cells-grow (s + d) (s + 122 * ceil d 122) (omega arith))

-- so at most ceil(d / 40), 'or eight if that is less'
pub coins : (s d : ℕ) → s + d ≤ max_total → cells (s + d) ≤ cells s + cells_for d
unfolding cells_for ceil
coins s d l = omega (arith, sharper s d, cells-most (s + d) l)

-- the same of two sums, of which the second may be the smaller
pub rises : (s s' d : ℕ) → s' ≤ max_total → s' ≤ s + d → cells s' ≤ cells s + cells_for d
unfolding cells_for ceil
rises s s' d l m = go (dec_le s s')
  where
    go : Dec (s ≤ s') → cells s' ≤ cells s + cells_for d
    go (yes n) =
        let e : s + (s' - s) ≡ s' = omega arith in
        let k : cells s' ≤ cells s + cells_for (s' - s) = rw e at (coins s (s' - s) (omega arith)) in
        omega arith
    go (no n) = omega (arith, cells-grow s' s (omega arith))

-- ---- page by page: whatever becomes of a list, its need rises by no more than the coins that its pages gain may cost
pub need-rises : (xs ys : List ℕ) (P : ℕ) → sum ys ≤ max_total → need ys P ≤ need xs P + sum (tabulate P (λ p. cells_for (page_gain xs ys p)))
unfolding need page_gain
need-rises xs ys P l =
    sum-two P (λ p. cells (sum (page ys p))) (λ p. cells (sum (page xs p))) (λ p. cells_for (page_gain xs ys p))
    (λ p. rises (sum (page xs p)) (sum (page ys p)) (page_gain xs ys p) (omega (arith, page-le ys p)) (omega arith))
