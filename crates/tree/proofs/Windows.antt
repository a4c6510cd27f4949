-- Windows of a list of counts: their halves and their sums. Assumes nothing.
use mathlib.Core.Path.{◌≡◌, sym, ap, ◌∙◌}
use mathlib.Core.List.{List, ◌∷◌, ◌++◌}
use Prim.Native.Nat.{ℕ, zero, suc, ◌+◌, ◌-◌, ◌^◌, ◌≤◌}
use native.Mathlib.Nat.{pow-succ'}
use native.Mathlib.Omega.{arith}
use lib.ListN.{length, get_or, take, drop}
use lib.Seq.{take_at, drop_at}
use Rattle.lists.specs.Lists.{tabulate, sum, window}
use Rattle.lists.proofs.Tables.{tabulate-ext, length-tabulate}
use Rattle.lists.proofs.Sums.{sum-append}

-- a table of m + n values
tabulate-add : {A : Type 0} (m n : ℕ) (f : ℕ → A) → tabulate (m + n) f ≡ tabulate m f ++ tabulate n (λ j. f (m + j))
unfolding tabulate
tabulate-add zero n f =
    ap (λ (z : ℕ). tabulate z f) {x = 0 + n} {y = n} (omega arith)
    ∙ tabulate-ext n f (λ j. f (0 + j)) (λ j _. ap f {x = j} {y = 0 + j} (omega arith))
tabulate-add (suc m) n f =
    let back = tabulate-ext n (λ j. f (suc (m + j))) (λ j. f (suc m + j)) (λ j _. ap f {x = suc (m + j)} {y = suc m + j} (omega arith)) in
    ap (λ (z : ℕ). tabulate z f) {x = suc m + n} {y = suc (m + n)} (omega arith)
    ∙ ap (λ z. f 0 ∷ z) (tabulate-add m n (λ j. f (suc j)) ∙ ap (λ z. tabulate m (λ j. f (suc j)) ++ z) back)

length-window : (xs : List ℕ) (i n : ℕ) → length (window xs i n) ≡ n
unfolding window
length-window xs i n = length-tabulate n (λ j. get_or xs (i + j) 0)

same_place : (xs : List ℕ) (i j : ℕ) → i ≡ j → get_or xs i 0 ≡ get_or xs j 0
same_place xs i j e = ap (λ (z : ℕ). get_or xs z 0) e

-- a window is two next to each other
window-add : (xs : List ℕ) (i m n : ℕ) → window xs i (m + n) ≡ window xs i m ++ window xs (i + m) n
unfolding window
window-add xs i m n =
    tabulate-add m n (λ j. get_or xs (i + j) 0)
    ∙ ap (λ (z : List ℕ). tabulate m (λ j. get_or xs (i + j) 0) ++ z)
    (tabulate-ext n (λ j. get_or xs (i + (m + j)) 0) (λ j. get_or xs (i + m + j) 0) (λ j _. same_place xs (i + (m + j)) (i + m + j) (omega arith)))

sum-window-add : (xs : List ℕ) (i m n : ℕ) → sum (window xs i (m + n)) ≡ sum (window xs i m) + sum (window xs (i + m) n)
sum-window-add xs i m n = ap sum (window-add xs i m n) ∙ sum-append (window xs i m) (window xs (i + m) n)

-- ---- the sum of a window, count by count

pub window-none : (xs : List ℕ) (from : ℕ) → 0 ≡ sum (window xs from (from - from))
unfolding window tabulate sum
window-none xs from = let e : from - from ≡ 0 = omega arith in rw e

pub window_more : (xs : List ℕ) (from i t : ℕ) → from ≤ i → t ≡ sum (window xs from (i - from))
    → t + get_or xs i 0 ≡ sum (window xs from (i + 1 - from))
unfolding window tabulate sum
window_more xs from i t l e =
    let k : i + 1 - from ≡ i - from + 1 = omega arith in
    let b = same_place xs (from + (i - from) + 0) i (omega arith) in
    omega (arith, ap (λ (z : ℕ). sum (window xs from z)) k, sum-window-add xs from (i - from) 1, b)

-- ---- windows of one count and of two
pub one-count : (xs : List ℕ) (i : ℕ) → sum (window xs i 1) ≡ get_or xs i 0
unfolding window tabulate sum
one-count xs i = omega (arith, same_place xs (i + 0) i (omega arith))

pub two-counts : (xs : List ℕ) (i : ℕ) → sum (window xs i 2) ≡ get_or xs i 0 + get_or xs (i + 1) 0
two-counts xs i = omega (arith, sum-window-add xs i 1 1, one-count xs i, one-count xs (i + 1))

-- ---- the halves of a window

in_halves : (xs : List ℕ) (i h : ℕ) → window xs i (2 ^ suc h) ≡ window xs i (2 ^ h) ++ window xs (i + 2 ^ h) (2 ^ h)
in_halves xs i h =
    let e : 2 ^ suc h ≡ 2 ^ h + 2 ^ h = omega (arith, pow-succ' 2 h) in
    ap (window xs i) e ∙ window-add xs i (2 ^ h) (2 ^ h)

pub half-left : (xs : List ℕ) (i h : ℕ) → take (2 ^ h) (window xs i (2 ^ suc h)) ≡ window xs i (2 ^ h)
half-left xs i h =
    ap (take (2 ^ h)) (in_halves xs i h)
    ∙ take_at (window xs i (2 ^ h)) (window xs (i + 2 ^ h) (2 ^ h)) (2 ^ h) (length-window xs i (2 ^ h))

pub half-right : (xs : List ℕ) (i h : ℕ) → drop (2 ^ h) (window xs i (2 ^ suc h)) ≡ window xs (i + 2 ^ h) (2 ^ h)
half-right xs i h =
    ap (drop (2 ^ h)) (in_halves xs i h)
    ∙ drop_at (window xs i (2 ^ h)) (window xs (i + 2 ^ h) (2 ^ h)) (2 ^ h) (length-window xs i (2 ^ h))

pub half-sums : (xs : List ℕ) (i h : ℕ) → sum (window xs i (2 ^ h)) + sum (window xs (i + 2 ^ h) (2 ^ h)) ≡ sum (window xs i (2 ^ suc h))
half-sums xs i h = sym (ap sum (in_halves xs i h) ∙ sum-append (window xs i (2 ^ h)) (window xs (i + 2 ^ h) (2 ^ h)))
