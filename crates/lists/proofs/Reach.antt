-- Document 01's reach: the least index whose prefix sum is at least a figure. Assumes nothing.
use mathlib.Core.Path.{◌≡◌, refl, sym, ap, ap₂, ◌∙◌}
use mathlib.Core.Bool.{Bool}
use mathlib.Core.List.{List, [], ◌∷◌, ◌++◌}
use Prim.Native.Nat.{ℕ, zero, suc, ◌+◌, ◌-◌, ◌≤◌, ◌<◌}
use native.Mathlib.Omega.{arith}
use lib.ListN.{length, get_or, take}
use lib.Dec.{leb}
use native.Mathlib.Decide.{ℕ_discrete, dec_le}
use borrow.Author.Tests.{le-leb, lt-leb}
use Rattle.lists.specs.Lists.{tabulate, sum, pick, least, reached}

-- least goes by the values of its test
least-ext : (n : ℕ) (f g : ℕ → Bool) → ((i : ℕ) → f i ≡ g i) → least n f ≡ least n g
unfolding least
least-ext zero f g h = refl
least-ext (suc n) f g h = ap₂ (λ (b : Bool) (k : ℕ). pick b 0 (suc k)) (h 0) (least-ext n (λ i. f (suc i)) (λ i. g (suc i)) (λ i. h (suc i)))

-- p is at most x and y together just where what x leaves of it is at most y
shift : (p x y : ℕ) → leb p (x + y) ≡ leb (p - x) y
shift p x y = go (dec_le p (x + y))
  where
    go : Dec (p ≤ x + y) → leb p (x + y) ≡ leb (p - x) y
    go (yes h) = rw (le-leb p (x + y) h, le-leb (p - x) y (omega arith))
    go (no h) = rw (lt-leb p (x + y) (omega arith), lt-leb (p - x) y (omega arith))

pub reached-nil : (q : ℕ) → reached q [] ≡ 0
unfolding reached least
reached-nil q = refl

pub reached-zero : (xs : List ℕ) → reached 0 xs ≡ 0
unfolding reached least pick sum
reached-zero [] = refl
reached-zero (x ∷ xs) = refl

pub reached-suc : (q x : ℕ) (xs : List ℕ) → 1 ≤ q → reached q (x ∷ xs) ≡ suc (reached (q - x) xs)
unfolding reached least pick sum
reached-suc q x xs h =
    rw (lt-leb q 0 h)
    (ap suc (least-ext (length xs) (λ i. leb q (x + sum (take i xs))) (λ i. leb (q - x) (sum (take i xs))) (λ i. shift q x (sum (take i xs)))))

pub reached-left : (q : ℕ) (xs ys : List ℕ) → q ≤ sum xs → reached q (xs ++ ys) ≡ reached q xs
unfolding sum
reached-left q [] ys h =
    ap (λ (z : ℕ). reached z ys) {x = q} {y = 0} (omega arith) ∙ reached-zero ys ∙ sym (reached-zero [])
    ∙ ap (λ (z : ℕ). reached z []) {x = 0} {y = q} (omega arith)
reached-left zero (x ∷ xs) ys h = reached-zero (x ∷ xs ++ ys) ∙ sym (reached-zero (x ∷ xs))
reached-left (suc q) (x ∷ xs) ys h =
    reached-suc (suc q) x (xs ++ ys) (omega arith) ∙ ap suc (reached-left (suc q - x) xs ys (omega arith)) ∙ sym (reached-suc (suc q) x xs (omega arith))

pub reached-right : (q : ℕ) (xs ys : List ℕ) → sum xs < q → reached q (xs ++ ys) ≡ length xs + reached (q - sum xs) ys
unfolding sum
reached-right q [] ys h = ap (λ (z : ℕ). reached z ys) {x = q} {y = q - 0} (omega arith) ∙ omega arith
reached-right q (x ∷ xs) ys h =
    let e : q - x - sum xs ≡ q - (x + sum xs) = omega arith in
    reached-suc q x (xs ++ ys) (omega arith) ∙ ap suc (reached-right (q - x) xs ys (omega arith)) ∙ omega (arith, ap (λ (z : ℕ). reached z ys) e)

-- zeros behind a list, and what is behind its first n, do not matter to a figure that these reach
pub reached-tabulate : (n q : ℕ) (xs : List ℕ) → q ≤ sum (take n xs) → reached q (tabulate n (λ j. get_or xs j 0)) ≡ reached q xs
unfolding tabulate sum
reached-tabulate zero q xs h = rw (at_zero q h) (reached-zero [] ∙ sym (reached-zero xs))
  where
    at_zero : (q : ℕ) → q ≤ 0 → q ≡ 0
    at_zero q h = omega arith
reached-tabulate (suc n) zero xs h = reached-zero (tabulate (suc n) (λ j. get_or xs j 0)) ∙ sym (reached-zero xs)
reached-tabulate (suc n) (suc q) [] h = absurd (omega arith)
reached-tabulate (suc n) (suc q) (x ∷ xs) h =
    reached-suc (suc q) x (tabulate n (λ j. get_or xs j 0)) (omega arith)
    ∙ ap suc (reached-tabulate n (suc q - x) xs (omega arith))
    ∙ sym (reached-suc (suc q) x xs (omega arith))

below : (q x : ℕ) (xs : List ℕ) (j : ℕ) → j < reached (suc q - x) xs → x < suc q
below q x xs j h = go (ℕ_discrete (suc q - x) 0)
  where
    go : Dec (suc q - x ≡ 0) → x < suc q
    go (yes e) = absurd (omega (arith, ap (λ (z : ℕ). reached z xs) e, reached-zero xs))
    go (no e) = omega arith

-- a figure up to the total is reached, by the index and by none before it
pub reached-le : (q : ℕ) (xs : List ℕ) → reached q xs ≤ length xs
unfolding reached least pick
reached-le q [] = omega arith
reached-le zero (x ∷ xs) = omega (arith, reached-zero (x ∷ xs))
reached-le (suc q) (x ∷ xs) = omega (arith, reached-suc (suc q) x xs (omega arith), reached-le (suc q - x) xs)

pub reached-enough : (q : ℕ) (xs : List ℕ) → q ≤ sum xs → q ≤ sum (take (reached q xs) xs)
unfolding reached least pick sum
reached-enough q [] h = h
reached-enough zero (x ∷ xs) h = omega arith
reached-enough (suc q) (x ∷ xs) h = rw (reached-suc (suc q) x xs (omega arith)) (omega (arith, reached-enough (suc q - x) xs (omega arith)))

pub reached-least : (q : ℕ) (xs : List ℕ) (j : ℕ) → j < reached q xs → sum (take j xs) < q
unfolding reached least pick sum
reached-least q [] j h = absurd (omega arith)
reached-least zero (x ∷ xs) j h = absurd (omega arith)
reached-least (suc q) (x ∷ xs) zero h = omega arith
reached-least (suc q) (x ∷ xs) (suc j) h =
    let l : j < reached (suc q - x) xs = omega (arith, reached-suc (suc q) x xs (omega arith)) in
    omega (arith, reached-least (suc q - x) xs j l, below q x xs j l)
