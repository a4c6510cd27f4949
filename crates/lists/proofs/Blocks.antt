-- Windows of a list, and a block of 256 elements that a list's pages, n elements each, are put into one after another. Assumes nothing.
use mathlib.Core.Path.{◌≡◌, sym, ap, ◌∙◌}
use mathlib.Core.List.{List, ◌++◌}
use Prim.Native.Nat.{ℕ, zero, suc, ◌+◌, ◌-◌, ◌*◌, ◌/◌, ◌%◌, ◌≤◌, ◌<◌, min}
use native.Mathlib.Nat.{div-add-mod', lt_of_mul-lt-mul_left, mod-lt, mul-le-mul_left}
use native.Mathlib.Decide.{dec_le}
use native.Mathlib.Numerals.{add-one}
use native.Mathlib.Omega.{arith}
use lib.ListN.{length, get_or, replicate, length-append, length-replicate, get_or-append, get_or-eq_default}
use lib.Seq.{ext_get_or, get_or-append-add}
use Rattle.lists.specs.Lists.{concat, fill, splice, tabulate, window}
use Rattle.lists.proofs.Pages.{concat-get, paged, paged-length}
use Rattle.lists.proofs.Parts.{length-splice, splice-nil, splice-then}
use Rattle.lists.proofs.Tables.{concat-each, concat-suc, get_d_tabulate, length-tabulate, tabulate-ext}
use Rattle.lists.proofs.Zeros.{splice-zeros, zeros-at}

-- ---- windows
pub window-long : (xs : List ℕ) (i n : ℕ) → length (window xs i n) ≡ n
unfolding window
window-long xs i n = length-tabulate n (λ (j : ℕ). get_or xs (i + j) 0)

pub window-get : (xs : List ℕ) (i n j : ℕ) → j < n → get_or (window xs i n) j 0 ≡ get_or xs (i + j) 0
unfolding window
window-get xs i n j l = get_d_tabulate n (λ (k : ℕ). get_or xs (i + k) 0) j 0 l

-- a window of a window
pub window-in : (xs : List ℕ) (a n f k : ℕ) → f + k ≤ n → window (window xs a n) f k ≡ window xs (a + f) k
unfolding window
window-in xs a n f k h =
    tabulate-ext k (λ j. get_or (tabulate n (λ i. get_or xs (a + i) 0)) (f + j) 0) (λ j. get_or xs (a + f + j) 0)
    (λ j l. get_d_tabulate n (λ i. get_or xs (a + i) 0) (f + j) 0 (omega arith) ∙ ap (λ (i : ℕ). get_or xs i 0) {x = a + (f + j)} {y = a + f + j} (omega arith))

-- ---- pages put one after another: the first k of them, from page first on
abbrev pub row : ℕ → List ℕ → ℕ → ℕ → List ℕ
row n xs first k = concat (tabulate k (λ (j : ℕ). paged n xs (first + j)))

length-row : (n : ℕ) (xs : List ℕ) (first k : ℕ) → length (row n xs first k) ≡ n * k
length-row n xs first k = concat-each k n (λ (j : ℕ). paged n xs (first + j)) (λ j _. paged-length n xs (first + j))

pub none-put : (l : List ℕ) (n : ℕ) (xs : List ℕ) (first : ℕ) → l ≡ splice l 0 (row n xs first 0)
unfolding tabulate concat
none-put l n xs first = sym (splice-nil l 0)

pub one-put : (l c r : List ℕ) (n : ℕ) (xs : List ℕ) (first k : ℕ) → n * k + n ≤ length l → c ≡ splice l 0 (row n xs first k)
    → r ≡ splice c (n * k) (paged n xs (first + k)) → r ≡ splice l 0 (row n xs first (k + 1))
one-put l c r n xs first k h ec er =
    let f : ℕ → List ℕ = λ j. paged n xs (first + j) in
    let z : n * k ≡ 0 + length (row n xs first k) = omega (arith, length-row n xs first k) in
    splice-then l c r (row n xs first k) (f k) 0 (n * k) ec er z (omega (arith, paged-length n xs (first + k), length-row n xs first k))
    ∙ ap (splice l 0) (sym (concat-suc k f) ∙ ap (λ (y : ℕ). concat (tabulate y f)) (sym (add-one k)))

pub put-length : (l c : List ℕ) (n : ℕ) (xs : List ℕ) (first k : ℕ) → n * k ≤ length l → c ≡ splice l 0 (row n xs first k) → length c ≡ length l
put-length l c n xs first k h ec = ap length ec ∙ length-splice l 0 (row n xs first k) (omega (arith, length-row n xs first k))

-- ---- the block: w pages of n elements
-- an element of these pages
at-page : (n : ℕ) (xs : List ℕ) (first k q r i : ℕ) → n * q + r ≡ i → q < k → r < n → get_or (row n xs first k) i 0 ≡ get_or xs (n * first + i) 0
at-page n xs first k q r i g l h =
    ap (λ (z : ℕ). get_or (row n xs first k) z 0) (sym g)
    ∙ concat-get k n (λ (j : ℕ). paged n xs (first + j)) q r (λ j _. paged-length n xs (first + j)) l h
    ∙ get_d_tabulate n (λ j. get_or xs (n * (first + q) + j) 0) r 0 h
    ∙ ap (λ (z : ℕ). get_or xs z 0) {x = n * (first + q) + r} {y = n * first + i} (omega arith)

-- an element behind them is behind the list
behind : (n P first k w i m : ℕ) → m ≤ n * P → n * w ≡ 256 → k ≡ min (P - first) w → n * k ≤ i → i < 256 → m ≤ n * first + i
behind n P first k w i m h s q l u = go (dec_le w k)
  where
    go : Dec (w ≤ k) → m ≤ n * first + i
    go (yes y) = absurd (omega (arith, mul-le-mul_left n y))
    go (no y) = omega (arith, mul-le-mul_left n (let x : P ≤ first + k = omega arith in x))

some-page : (n w : ℕ) → n * w ≡ 256 → 1 ≤ n
some-page zero w s = absurd (omega (arith, s))
some-page (suc n) w s = omega arith

block_at : (n w : ℕ) (xs : List ℕ) (P first k z : ℕ) → n * w ≡ 256 → length xs ≤ n * P → k ≡ min (P - first) w → (i : ℕ) → i < 256
    → get_or (row n xs first k ++ replicate z 0) i 0 ≡ get_or xs (n * first + i) 0
block_at n w xs P first k z s h q i l = go (dec_le (suc i) (n * k))
  where
    F : List ℕ
    F = row n xs first k

    split : n * (i / n) + i % n ≡ i
    split = omega (arith, div-add-mod' i n)

    go : Dec (suc i ≤ n * k) → get_or (F ++ replicate z 0) i 0 ≡ get_or xs (n * first + i) 0
    go (yes g) =
        get_or-append F (replicate z 0) 0 i (omega (arith, length-row n xs first k))
        ∙ at-page n xs first k (i / n) (i % n) i split (lt_of_mul-lt-mul_left n (omega (arith, split))) (mod-lt i (some-page n w s))
    go (no g) =
        let p : n * k ≤ i = omega (arith, g) in
        ap (λ (j : ℕ). get_or (F ++ replicate z 0) j 0) {x = i} {y = length F + (i - n * k)} (omega (arith, length-row n xs first k))
        ∙ get_or-append-add F (replicate z 0) (i - n * k) 0 ∙ zeros-at z (i - n * k)
        ∙ sym (get_or-eq_default xs 0 {n = n * first + i} (behind n P first k w i (length xs) h s q p l))

pub block-is : (n w : ℕ) (xs l r : List ℕ) (P first k : ℕ) → n * w ≡ 256 → length xs ≤ n * P → k ≡ min (P - first) w → l ≡ replicate 256 0
    → r ≡ splice l 0 (row n xs first k) → r ≡ window xs (n * first) 256
unfolding window fill
block-is n w xs l r P first k s h q el er =
    let F : List ℕ = row n xs first k in
    let Z : List ℕ = replicate (256 - length F) 0 in
    let g : ℕ → ℕ = λ j. get_or xs (n * first + j) 0 in
    let few : n * k ≤ 256 = omega (arith, s, mul-le-mul_left n (let x : k ≤ w = omega arith in x)) in
    let long : length (F ++ Z) ≡ 256 = omega (arith, length-row n xs first k, length-append F Z, length-replicate {A = ℕ} (256 - length F) 0) in
    er ∙ ap (λ (y : List ℕ). splice y 0 F) el ∙ splice-zeros 256 F
    ∙ ext_get_or 0 (F ++ Z) (tabulate 256 g) (long ∙ sym (length-tabulate 256 g)) (λ i u.
    block_at n w xs P first k (256 - length F) s h q i (omega arith) ∙ sym (get_d_tabulate 256 g i 0 (omega arith)))
