-- Pages of a list. Assumes nothing.
use mathlib.Core.Path.{◌≡◌, sym, ap, ap₂, ◌∙◌}
use mathlib.Core.Bool.{true}
use mathlib.Core.List.{List, [], ◌∷◌}
use Prim.Native.Nat.{ℕ, zero, suc, ◌+◌, ◌-◌, ◌*◌, ◌/◌, ◌%◌, ◌^◌, ◌≤◌, ◌<◌}
use native.Mathlib.Nat.{mul-le-mul_left, mul-le-mul_right, mul-suc, div-mul-le_self, lt-div-mul-add, lt_of_mul-lt-mul_left, div-add-mod', mod-lt}
use native.Mathlib.Decide.{dec_le}
use native.Mathlib.Omega.{arith}
use lib.ListN.{length, get_or, get_or-eq_default, take, length-append}
use lib.Pow.{pow_pos, pow_mono}
use Rattle.lists.specs.Counts.{within}
use Rattle.lists.specs.Lists.{concat, sum, tabulate, window}
use Rattle.lists.proofs.CountLaws.{within-each}
use Rattle.lists.proofs.Pages.{paged-length, reading-behind, reading-within}
use Rattle.lists.proofs.Sums.{sum-take-le}
use Rattle.lists.proofs.Tables.{concat-le, concat-most, concat-suc, get_d_tabulate}
use Rattle.bits.specs.Bits.{field}
use Rattle.bits.proofs.Laws.{length-field}
use Rattle.reserve.specs.Reserve.{digits, reserve}
use Rattle.reserve.proofs.Exact.{digits_le}
use Rattle.reserve.proofs.Fit.{bound}
use Rattle.reserve.proofs.Line.{A, B}
use Rattle.tree.specs.Tree.{tree}
use Rattle.tree.proofs.Shape.{length-tree}
use Rattle.image.specs.Image.{Limits, code, max_hours, max_total, page, page_code, pages, root, start}

-- ---- how many pages
cover-alg : (n m k : ℕ) → 1 ≤ m → n + (m - 1) < k * m + m → n ≤ m * k
cover-alg n m k a b = omega arith

pub pages-cover : (e n : ℕ) → n ≤ 2 ^ e * pages e n
unfolding pages
pages-cover e n = cover-alg n (2 ^ e) ((n + (2 ^ e - 1)) / 2 ^ e) (pow_pos e) (lt-div-mul-add (pow_pos e))

tight-alg : (n m k p : ℕ) → 1 ≤ m → k * m ≤ n + (m - 1) → p < k → m * p < n
tight-alg n m k p a b l = omega (arith, mul-le-mul_left m l, mul-suc m p)

pub pages-tight : (e n p : ℕ) → p < pages e n → 2 ^ e * p < n
unfolding pages
pages-tight e n p l = tight-alg n (2 ^ e) ((n + (2 ^ e - 1)) / 2 ^ e) p (pow_pos e) (div-mul-le_self (n + (2 ^ e - 1)) (2 ^ e)) l

-- an hour's page and its place there
pub hour-split : (e i : ℕ) → 2 ^ e * (i / 2 ^ e) + i % 2 ^ e ≡ i
hour-split e i = omega (arith, div-add-mod' i (2 ^ e))

pub hour-low : (e i : ℕ) → i % 2 ^ e < 2 ^ e
hour-low e i = mod-lt i (pow_pos e)

pub hour-page : (e n i : ℕ) → i < n → i / 2 ^ e < pages e n
hour-page e n i l = lt_of_mul-lt-mul_left (2 ^ e) (omega (arith, hour-split e i, pages-cover e n))

few-alg : (n m k : ℕ) → 4 ≤ m → n ≤ max_hours → ((p : ℕ) → p < k → m * p < n) → k ≤ 16384
few-alg n m zero a b c = omega arith
few-alg n m (suc k) a b c = omega (arith, c k (omega arith), mul-le-mul_right k a)

pub pages-few : (e n : ℕ) → 2 ≤ e → n ≤ max_hours → pages e n ≤ 16384
pages-few e n a b = few-alg n (2 ^ e) (pages e n) (pow_mono {i = 2} {j = e} a) b (pages-tight e n)

-- ---- a page's counts
pub length-page : (e : ℕ) (xs : List ℕ) (p : ℕ) → length (page e xs p) ≡ 2 ^ e
unfolding page window
length-page e xs p = paged-length (2 ^ e) xs p

pub get_d-page : (e : ℕ) (xs : List ℕ) (p j : ℕ) → j < 2 ^ e → get_or (page e xs p) j 0 ≡ get_or xs (2 ^ e * p + j) 0
unfolding page window
get_d-page e xs p j l = get_d_tabulate (2 ^ e) (λ j. get_or xs (2 ^ e * p + j) 0) j 0 l

-- a reading within a page
pub sum-page : (e : ℕ) (xs : List ℕ) (p j : ℕ) → j ≤ 2 ^ e
    → sum (take (2 ^ e * p) xs) + sum (take j (page e xs p)) ≡ sum (take (2 ^ e * p + j) xs)
unfolding page window
sum-page e xs p j l = sym (reading-within (2 ^ e) xs p j l)

pub page-sum : (e : ℕ) (xs : List ℕ) (p : ℕ) → sum (take (2 ^ e * p) xs) + sum (page e xs p) ≡ root e xs p
unfolding root page window
page-sum e xs p = sym (reading-behind (2 ^ e) xs p)

-- ---- how many bits
pub width-most : (s : ℕ) → s ≤ max_total → digits s ≤ 40
width-most s l = digits_le s 40 (omega arith)

-- a tree of a sum of 40 bits
pub reserve-most : (h s : ℕ) → h ≤ 8 → s < 1099511627776 → reserve h s ≤ 8960
unfolding A B
reserve-most zero s k l = omega (arith, bound 0 s 40)
reserve-most (suc zero) s k l = omega (arith, bound 1 s 40)
reserve-most (suc (suc zero)) s k l = omega (arith, bound 2 s 40)
reserve-most (suc (suc (suc zero))) s k l = omega (arith, bound 3 s 40)
reserve-most (suc (suc (suc (suc zero)))) s k l = omega (arith, bound 4 s 40)
reserve-most (suc (suc (suc (suc (suc zero))))) s k l = omega (arith, bound 5 s 40)
reserve-most (suc (suc (suc (suc (suc (suc zero)))))) s k l = omega (arith, bound 6 s 40)
reserve-most (suc (suc (suc (suc (suc (suc (suc zero))))))) s k l = omega (arith, bound 7 s 40)
reserve-most (suc (suc (suc (suc (suc (suc (suc (suc zero)))))))) s k l = omega (arith, bound 8 s 40)
reserve-most (suc (suc (suc (suc (suc (suc (suc (suc (suc h))))))))) s k l = absurd (omega arith)

pub length-page_code : (e : ℕ) (xs : List ℕ) (p : ℕ) → length (page_code e xs p) ≡ digits (sum xs) + reserve e (sum (page e xs p))
unfolding page_code
length-page_code e xs p =
    length-append (field (digits (sum xs)) (root e xs p)) (tree e (page e xs p))
    ∙ ap₂ ◌+◌ (length-field (digits (sum xs)) (root e xs p)) (length-tree e (page e xs p))

pub root-le : (e : ℕ) (xs : List ℕ) (p : ℕ) → root e xs p ≤ sum xs
unfolding root
root-le e xs p = sum-take-le (2 ^ e * suc p) xs

pub page-le : (e : ℕ) (xs : List ℕ) (p : ℕ) → sum (page e xs p) ≤ sum xs
page-le e xs p = omega (arith, page-sum e xs p, root-le e xs p)

-- no count is above the sum
pub count-le : (xs : List ℕ) (i : ℕ) → get_or xs i 0 ≤ sum xs
unfolding sum
count-le [] i = omega arith
count-le (x ∷ xs) zero = omega arith
count-le (x ∷ xs) (suc i) = omega (arith, count-le xs i)

pub code-most : (e : ℕ) (xs : List ℕ) → Limits e xs → length (code e xs) ≤ 4294967295
unfolding code
code-most e xs m =
    let k : ℕ = pages e (length xs) in
    let w : length (concat (tabulate k (page_code e xs))) ≤ 9000 * k =
    concat-most k 9000 (page_code e xs) (λ j _. omega (
      arith,
      length-page_code e xs j,
      width-most (sum xs) m.total,
      reserve-most e (sum (page e xs j)) m.e-high (omega (arith, page-le e xs j, m.total)),
    )) in
    omega (arith, pages-few e (length xs) m.e-low m.hours)

-- page p starts where the one before it ends, and ends within the code
pub start-next : (e : ℕ) (xs : List ℕ) (p : ℕ) → start e xs (suc p) ≡ start e xs p + (digits (sum xs) + reserve e (sum (page e xs p)))
unfolding start
start-next e xs p =
    ap length (concat-suc p (page_code e xs)) ∙ length-append (concat (tabulate p (page_code e xs))) (page_code e xs p)
    ∙ ap (λ (z : ℕ). length (concat (tabulate p (page_code e xs))) + z) (length-page_code e xs p)

pub start-within : (e : ℕ) (xs : List ℕ) (p : ℕ) → p < pages e (length xs)
    → start e xs p + (digits (sum xs) + reserve e (sum (page e xs p))) ≤ length (code e xs)
unfolding start code
start-within e xs p l = omega (arith, concat-le (pages e (length xs)) (page_code e xs) p l, length-page_code e xs p)

-- a page has no count that the list lacks
pub page-few : (most e p : ℕ) (xs : List ℕ) → ((i : ℕ) → get_or xs i 0 ≤ most) → within most (page e xs p) ≡ true
page-few most e p xs h = within-each most (page e xs p) at_each
  where
    at_each : (j : ℕ) → get_or (page e xs p) j 0 ≤ most
    at_each j = go (dec_le (suc j) (2 ^ e))
      where
        go : Dec (suc j ≤ 2 ^ e) → get_or (page e xs p) j 0 ≤ most
        go (yes l) = rw (get_d-page e xs p j l) (h (2 ^ e * p + j))
        go (no l) = rw (get_or-eq_default (page e xs p) 0 {n = j} (omega (arith, l, length-page e xs p))) (omega arith)
