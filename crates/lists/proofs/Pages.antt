-- A list by its pages of n elements each, zeros behind the list's last. Assumes nothing.
use mathlib.Core.Path.{◌≡◌, sym, ap, ap₂, ◌∙◌}
use mathlib.Core.List.{List, [], ◌∷◌, append-nil}
use Prim.Native.Nat.{ℕ, zero, suc, ◌+◌, ◌-◌, ◌*◌, ◌/◌, ◌%◌, ◌≤◌, ◌<◌}
use native.Mathlib.Nat.{div-add-mod', lt_of_mul-lt-mul_left, mod-lt, mul-suc}
use native.Mathlib.Omega.{arith}
use lib.ListN.{length, get_or, take, drop, length-take, length-drop, take-append-drop}
use lib.Seq.{ext_get_or, get_or-drop, get_or-take, length-take-le, take-add, take_all}
use Rattle.lists.specs.Lists.{tabulate, concat, sum, part, reached, reading}
use Rattle.lists.proofs.Reach.{reached-right, reached-tabulate}
use Rattle.lists.proofs.Sums.{sum-append, sum-tabulate, sum-take-le}
use Rattle.lists.proofs.Tables.{concat-at, concat-each, get_d_tabulate, length-tabulate, tabulate-ext, take-tabulate}

abbrev pub paged : ℕ → List ℕ → ℕ → List ℕ
paged n xs p = tabulate n (λ j. get_or xs (n * p + j) 0)

pub paged-length : (n : ℕ) (xs : List ℕ) (p : ℕ) → length (paged n xs p) ≡ n
paged-length n xs p = length-tabulate n (λ j. get_or xs (n * p + j) 0)

-- a page is what the list has from the page's first element on
paged-drop : (n : ℕ) (xs : List ℕ) (p : ℕ) → paged n xs p ≡ tabulate n (λ j. get_or (drop (n * p) xs) j 0)
paged-drop n xs p = tabulate-ext n (λ j. get_or xs (n * p + j) 0) (λ j. get_or (drop (n * p) xs) j 0) (λ j _. sym (get_or-drop (n * p) xs j 0))

-- ---- readings and sums
paged-front : (n : ℕ) (xs : List ℕ) (p j : ℕ) → j ≤ n → reading (paged n xs p) j ≡ reading (drop (n * p) xs) j
paged-front n xs p j l =
    ap (λ (z : List ℕ). reading z j) (paged-drop n xs p)
    ∙ ap sum (take-tabulate n j (λ j. get_or (drop (n * p) xs) j 0) l)
    ∙ sum-tabulate j (drop (n * p) xs)

pub reading-within : (n : ℕ) (xs : List ℕ) (p j : ℕ) → j ≤ n → reading xs (n * p + j) ≡ reading xs (n * p) + reading (paged n xs p) j
reading-within n xs p j l =
    ap sum (take-add (n * p) j xs)
    ∙ sum-append (take (n * p) xs) (take j (drop (n * p) xs))
    ∙ ap (λ (z : ℕ). reading xs (n * p) + z) (sym (paged-front n xs p j l))

pub reading-behind : (n : ℕ) (xs : List ℕ) (p : ℕ) → reading xs (n * suc p) ≡ reading xs (n * p) + sum (paged n xs p)
reading-behind n xs p =
    ap (reading xs) {x = n * suc p} {y = n * p + n} (omega (arith, mul-suc n p))
    ∙ reading-within n xs p n (omega arith)
    ∙ ap (λ (z : List ℕ). reading xs (n * p) + sum z) (take_all n (paged n xs p) (omega (arith, paged-length n xs p)))

pub paged-le : (n : ℕ) (xs : List ℕ) (p : ℕ) → sum (paged n xs p) ≤ sum xs
paged-le n xs p = omega (arith, reading-behind n xs p, sum-take-le (n * suc p) xs)

-- ---- pages in a row

-- element j of list p among lists of n elements each
pub concat-get : (k n : ℕ) (f : ℕ → List ℕ) (p j : ℕ) → ((q : ℕ) → q < k → length (f q) ≡ n) → p < k → j < n
    → get_or (concat (tabulate k f)) (n * p + j) 0 ≡ get_or (f p) j 0
concat-get k n f p j h l r =
    let F : List ℕ = concat (tabulate k f) in
    let w : part F (n * p) n ≡ f p = ap (λ (z : List ℕ). part z (n * p) n) (sym (append-nil F)) ∙ concat-at k n f [] p h l in
    sym (get_or-drop (n * p) F j 0) ∙ sym (get_or-take n (drop (n * p) F) j 0 r) ∙ ap (λ (z : List ℕ). get_or z j 0) w

-- they begin with the list, and zeros stand behind it
pub pages-get : (n k : ℕ) (xs : List ℕ) (i : ℕ) → i < n * k → get_or (concat (tabulate k (paged n xs))) i 0 ≡ get_or xs i 0
pages-get zero k xs i l = absurd (omega arith)
pages-get (suc m) k xs i l =
    let n : ℕ = suc m in
    let e : n * (i / n) + i % n ≡ i = omega (arith, div-add-mod' i n) in
    let r : i % n < n = mod-lt i (omega arith) in
    let q : i / n < k = lt_of_mul-lt-mul_left n (omega arith) in
    ap (λ (z : ℕ). get_or (concat (tabulate k (paged n xs))) z 0) (sym e)
    ∙ concat-get k n (paged n xs) (i / n) (i % n) (λ q _. paged-length n xs q) q r
    ∙ get_d_tabulate n (λ j. get_or xs (n * (i / n) + j) 0) (i % n) 0 r
    ∙ ap (λ (z : ℕ). get_or xs z 0) e

pub pages-back : (n k : ℕ) (xs : List ℕ) → length xs ≤ n * k → take (length xs) (concat (tabulate k (paged n xs))) ≡ xs
pages-back n k xs h =
    let F : List ℕ = concat (tabulate k (paged n xs)) in
    let lF : length F ≡ n * k = concat-each k n (paged n xs) (λ j _. paged-length n xs j) in
    let lt : length (take (length xs) F) ≡ length xs = omega (arith, length-take (length xs) F) in
    ext_get_or 0 (take (length xs) F) xs lt (λ i l. get_or-take (length xs) F i 0 (omega arith) ∙ pages-get n k xs i (omega arith))

-- ---- the least index that reaches a figure
some : (k : ℕ) (l : List ℕ) → 1 ≤ sum (take k l) → 1 ≤ length l
unfolding sum
some k [] h = absurd (omega (arith, sum-take-le k []))
some k (x ∷ l) h = omega arith

-- stands in the page whose sum what is left of the figure before it does not pass
pub reached-within : (n : ℕ) (xs : List ℕ) (p r : ℕ) → 1 ≤ r → r ≤ sum (paged n xs p)
    → reached (reading xs (n * p) + r) xs ≡ n * p + reached r (paged n xs p)
reached-within n xs p r low high =
    let a : List ℕ = take (n * p) xs in
    let d : List ℕ = drop (n * p) xs in
    let m : r ≤ sum (take n d) = omega (arith, ap sum (paged-drop n xs p), sum-tabulate n d) in
    let long : length a ≡ n * p = length-take-le (n * p) xs (omega (arith, some n d (omega arith), length-drop (n * p) xs)) in
    let back : sum a + r - sum a ≡ r = omega arith in
    ap (reached (sum a + r)) (sym (take-append-drop (n * p) xs))
    ∙ reached-right (sum a + r) a d (omega arith)
    ∙ ap₂ (λ (i j : ℕ). i + reached j d) long back
    ∙ ap (λ (z : ℕ). n * p + z) (sym (ap (reached r) (paged-drop n xs p) ∙ reached-tabulate n r d m))
