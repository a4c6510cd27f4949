-- Sums of lists. Assumes nothing.
use mathlib.Core.Path.{◌≡◌, refl, sym, ap, ◌∙◌}
use mathlib.Core.List.{List, [], ◌∷◌, ◌++◌}
use Prim.Native.Nat.{ℕ, zero, suc, ◌+◌, ◌-◌, ◌*◌, ◌≤◌, ◌<◌}
use native.Mathlib.Nat.{not-suc-le-zero, le_of_suc-le-suc, mul-suc}
use native.Mathlib.Decide.{dec_le}
use native.Mathlib.Numerals.{add-one}
use native.Mathlib.Omega.{arith}
use lib.ListN.{length, get_or, take, drop, take-append-drop, get_or-eq_default}
use Rattle.lists.specs.Lists.{tabulate, concat, sum, window}
use Rattle.lists.proofs.Tables.{tabulate-ext, tabulate-snoc}

-- ---- parts of a list
pub sum-append : (xs ys : List ℕ) → sum (xs ++ ys) ≡ sum xs + sum ys
unfolding sum
sum-append [] ys = omega arith
sum-append (x ∷ xs) ys = omega (arith, sum-append xs ys)

pub sum-halves : (k : ℕ) (xs : List ℕ) → sum (take k xs) + sum (drop k xs) ≡ sum xs
sum-halves k xs = sym (sum-append (take k xs) (drop k xs)) ∙ ap sum (take-append-drop k xs)

pub sum-take-le : (k : ℕ) (xs : List ℕ) → sum (take k xs) ≤ sum xs
sum-take-le k xs = omega (arith, sum-halves k xs)

pub sum-snoc : (xs : List ℕ) (v : ℕ) → sum (xs ++ v ∷ []) ≡ sum xs + v
unfolding sum
sum-snoc xs v = omega (arith, sum-append xs (v ∷ []))

-- ---- sums of tables
pub sum-nones : (n : ℕ) (f : ℕ → ℕ) → ((j : ℕ) → f j ≡ 0) → sum (tabulate n f) ≡ 0
unfolding sum tabulate
sum-nones zero f h = refl
sum-nones (suc n) f h = omega (arith, h 0, sum-nones n (λ j. f (suc j)) (λ j. h (suc j)))

-- entries of at most b
pub sum-most : (b n : ℕ) (f : ℕ → ℕ) → ((j : ℕ) → f j ≤ b) → sum (tabulate n f) ≤ b * n
unfolding sum tabulate
sum-most b zero f h = omega arith
sum-most b (suc n) f h = omega (arith, h 0, mul-suc b n, sum-most b n (λ j. f (suc j)) (λ j. h (suc j)))

pub sum-least : (b n : ℕ) (f : ℕ → ℕ) → ((j : ℕ) → b ≤ f j) → b * n ≤ sum (tabulate n f)
unfolding sum tabulate
sum-least b zero f h = omega arith
sum-least b (suc n) f h = omega (arith, h 0, mul-suc b n, sum-least b n (λ j. f (suc j)) (λ j. h (suc j)))

-- entries of at most those of two other tables
pub sum-two : (n : ℕ) (f g k : ℕ → ℕ) → ((j : ℕ) → f j ≤ g j + k j) → sum (tabulate n f) ≤ sum (tabulate n g) + sum (tabulate n k)
unfolding sum tabulate
sum-two zero f g k h = omega arith
sum-two (suc n) f g k h = omega (arith, h 0, sum-two n (λ j. f (suc j)) (λ j. g (suc j)) (λ j. k (suc j)) (λ j. h (suc j)))

-- one entry more
pub sum-next : (f : ℕ → ℕ) (n : ℕ) → sum (tabulate (n + 1) f) ≡ sum (tabulate n f) + f n
sum-next f n = ap (λ (z : ℕ). sum (tabulate z f)) (add-one n) ∙ ap sum (tabulate-snoc n f) ∙ sum-snoc (tabulate n f) (f n)

-- entries of 0 from i on
sum-behind : (f : ℕ → ℕ) (i k : ℕ) → ((j : ℕ) → i ≤ j → f j ≡ 0) → sum (tabulate (i + k) f) ≡ sum (tabulate i f)
sum-behind f i zero h = ap (λ (z : ℕ). sum (tabulate z f)) {x = i + 0} {y = i} (omega arith)
sum-behind f i (suc k) h =
    ap (λ (z : ℕ). sum (tabulate z f)) {x = i + suc k} {y = i + k + 1} (omega arith)
    ∙ omega (arith, sum-next f (i + k), h (i + k) (omega arith), sum-behind f i k h)

-- a window's sum is complete at its end, or at the list's
pub window-whole : (xs : List ℕ) (from i n : ℕ) → i ≤ n → (i < n → length xs ≤ from + i) → sum (window xs from i) ≡ sum (window xs from n)
unfolding window
window-whole xs from i n l h = go (dec_le n i)
  where
    go : Dec (n ≤ i) → sum (window xs from i) ≡ sum (window xs from n)
    go (yes q) = ap (λ (z : ℕ). sum (window xs from z)) {x = i} {y = n} (omega arith)
    go (no q) =
        let m : length xs ≤ from + i = h (omega arith) in
        sym (ap (λ (z : ℕ). sum (window xs from z)) {x = n} {y = i + (n - i)} (omega arith)
        ∙ sum-behind (λ j. get_or xs (from + j) 0) i (n - i) (λ j g. get_or-eq_default xs 0 {n = from + j} (omega (arith, g))))

-- the sum of a list's first n elements, zeros behind it
pub sum-tabulate : (n : ℕ) (xs : List ℕ) → sum (tabulate n (λ j. get_or xs j 0)) ≡ sum (take n xs)
unfolding sum tabulate
sum-tabulate zero xs = refl
sum-tabulate (suc n) [] = omega (arith, sum-nones n (λ j. get_or {A = ℕ} [] (suc j) 0) (λ j. refl))
sum-tabulate (suc n) (x ∷ xs) = omega (arith, sum-tabulate n xs)

pub sum-concat : (n : ℕ) (f : ℕ → List ℕ) → sum (concat (tabulate n f)) ≡ sum (tabulate n (λ p. sum (f p)))
unfolding tabulate concat sum
sum-concat zero f = refl
sum-concat (suc n) f = sum-append (f 0) (concat (tabulate n (λ j. f (suc j)))) ∙ ap (λ (z : ℕ). sum (f 0) + z) (sum-concat n (λ j. f (suc j)))

-- two tables that differ at one place
pub sum-tabulate-one : (n : ℕ) (f g : ℕ → ℕ) (i : ℕ) → i < n → ((j : ℕ) → (j ≡ i → ⊥) → f j ≡ g j)
    → sum (tabulate n f) + g i ≡ sum (tabulate n g) + f i
unfolding tabulate sum
sum-tabulate-one zero f g i l h = absurd (not-suc-le-zero l)
sum-tabulate-one (suc n) f g zero l h =
    omega (arith, ap sum (tabulate-ext n (λ j. f (suc j)) (λ j. g (suc j)) (λ j _. h (suc j) (λ e. omega (arith, e)))))
sum-tabulate-one (suc n) f g (suc i) l h =
    omega (
      arith,
      h 0 (λ e. omega (arith, e)),
      sum-tabulate-one n (λ j. f (suc j)) (λ j. g (suc j)) i (le_of_suc-le-suc l) (λ j e. h (suc j) (λ e'. e (omega (arith, e')))),
    )

-- ---- lists of sum 0 are lists of zeros
pub zero-at : (xs : List ℕ) (i : ℕ) → sum xs ≡ 0 → get_or xs i 0 ≡ 0
unfolding sum
zero-at [] i q = refl
zero-at (x ∷ xs) zero q = omega arith
zero-at (x ∷ xs) (suc i) q = zero-at xs i (omega arith)

pub sum-none : (xs : List ℕ) → ((i : ℕ) → get_or xs i 0 ≡ 0) → sum xs ≡ 0
unfolding sum
sum-none [] h = refl
sum-none (x ∷ xs) h = omega (arith, h 0, sum-none xs (λ i. h (suc i)))
