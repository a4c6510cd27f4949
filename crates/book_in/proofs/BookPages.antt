-- The pages of a book's list. Assumes nothing.
use mathlib.Core.Path.{◌≡◌, ap, ◌∙◌}
use mathlib.Core.List.{List, ◌++◌}
use Prim.Native.Nat.{ℕ, ◌+◌, ◌*◌, ◌^◌, ◌<◌}
use native.Mathlib.Omega.{arith}
use lib.ListN.{length, get_or, drop, get_or-append}
use Rattle.lists.specs.Lists.{splice, tabulate, window}
use Rattle.lists.proofs.Tables.{get_d_tabulate, length-tabulate, tabulate-ext}
use Rattle.image.specs.Image.{page}

-- numbers put at the front of a list are its first ones
front : (l w : List ℕ) (n j : ℕ) → length w ≡ n → j < n → get_or (splice l 0 w) (0 + j) 0 ≡ get_or w j 0
unfolding splice
front l w n j q h = ap (λ (k : ℕ). get_or (w ++ drop (0 + length w) l) k 0) {x = 0 + j} {y = j} (omega arith) ∙ get_or-append w (drop (0 + length w) l) 0 j (omega arith)

pub window-front : (l xs : List ℕ) (f n : ℕ) → window (splice l 0 (window xs f n)) 0 n ≡ window xs f n
unfolding window
window-front l xs f n =
    let g : ℕ → ℕ = λ j. get_or xs (f + j) 0 in
    tabulate-ext n (λ j. get_or (splice l 0 (tabulate n g)) (0 + j) 0) g
    (λ j h. front l (tabulate n g) n j (length-tabulate n g) h ∙ get_d_tabulate n g j 0 h)

-- a window is its own first part
window-own : (xs : List ℕ) (f n : ℕ) → window (window xs f n) 0 n ≡ window xs f n
unfolding window
window-own xs f n =
    let g : ℕ → ℕ = λ j. get_or xs (f + j) 0 in
    tabulate-ext n (λ j. get_or (tabulate n g) (0 + j) 0) g
    (λ j h. ap (λ (k : ℕ). get_or (tabulate n g) k 0) {x = 0 + j} {y = j} (omega arith) ∙ get_d_tabulate n g j 0 h)

-- the counts of page p, unpacked into n places
pub page-front : (e m p n : ℕ) (xs c : List ℕ) → m ≡ 2 ^ e → n ≡ m → c ≡ window xs (m * p) n → window c 0 (2 ^ e) ≡ page e xs p
unfolding page
page-front e m p n xs c em en q =
    ap (λ (z : List ℕ). window z 0 (2 ^ e)) (q ∙ ap (window xs (m * p)) (en ∙ em) ∙ ap (λ (k : ℕ). window xs (k * p) (2 ^ e)) em)
    ∙ window-own xs (2 ^ e * p) (2 ^ e)
