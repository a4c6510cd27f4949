-- A list with an hour inserted or struck. Assumes nothing.
use mathlib.Core.Path.{◌≡◌, refl, ap}
use mathlib.Core.List.{List, [], ◌∷◌, ◌++◌}
use Prim.Native.Nat.{ℕ, zero, suc, ◌+◌, ◌≤◌, ◌<◌}
use native.Mathlib.Omega.{arith}
use lib.ListN.{length, get_or, take, drop, length-append, length-take, length-drop}
use lib.Seq.{drop-length, take-length}
use Rattle.lists.specs.Lists.{sum}
use Rattle.lists.proofs.Sums.{sum-append, sum-halves}
use Rattle.store.specs.Plain.{inserted, struck}

pub length_inserted : (xs : List ℕ) (i v : ℕ) → i ≤ length xs → length (inserted xs i v) ≡ length xs + 1
unfolding inserted
length_inserted xs i v l = omega (arith, length-append (take i xs) (v ∷ drop i xs), length-take i xs, length-drop i xs)

pub length-struck : (xs : List ℕ) (i : ℕ) → i < length xs → length (struck xs i) + 1 ≡ length xs
unfolding struck
length-struck xs i l = omega (arith, length-append (take i xs) (drop (suc i) xs), length-take i xs, length-drop (suc i) xs)

pub sum-inserted : (xs : List ℕ) (i v : ℕ) → sum (inserted xs i v) ≡ sum xs + v
unfolding inserted sum
sum-inserted xs i v = omega (arith, sum-append (take i xs) (v ∷ drop i xs), sum-halves i xs)

pub sum-struck : (xs : List ℕ) (i : ℕ) → sum (struck xs i) + get_or xs i 0 ≡ sum xs
unfolding struck sum
sum-struck [] zero = omega arith
sum-struck [] (suc i) = omega arith
sum-struck (x ∷ xs) zero = omega arith
sum-struck (x ∷ xs) (suc i) = omega (arith, sum-struck xs i)

-- at the end it is an append
pub inserted-end : (xs : List ℕ) (v : ℕ) → inserted xs (length xs) v ≡ xs ++ v ∷ []
unfolding inserted
inserted-end xs v = rw (take-length xs, drop-length xs)

-- an hour that is inserted and struck again
pub struck-inserted : (xs : List ℕ) (i v : ℕ) → i ≤ length xs → struck (inserted xs i v) i ≡ xs
unfolding struck inserted
struck-inserted xs zero v l = refl
struck-inserted [] (suc i) v l = absurd (omega arith)
struck-inserted (x ∷ xs) (suc i) v l = ap (λ (z : List ℕ). x ∷ z) (struck-inserted xs i v (omega arith))

-- ---- hour by hour
pub inserted-before : (xs : List ℕ) (i v h : ℕ) → i ≤ length xs → h < i → get_or (inserted xs i v) h 0 ≡ get_or xs h 0
unfolding inserted
inserted-before xs zero v h l b = absurd (omega arith)
inserted-before [] (suc i) v h l b = absurd (omega arith)
inserted-before (x ∷ xs) (suc i) v zero l b = refl
inserted-before (x ∷ xs) (suc i) v (suc h) l b = inserted-before xs i v h (omega arith) (omega arith)

pub inserted-at : (xs : List ℕ) (i v : ℕ) → i ≤ length xs → get_or (inserted xs i v) i 0 ≡ v
unfolding inserted
inserted-at xs zero v l = refl
inserted-at [] (suc i) v l = absurd (omega arith)
inserted-at (x ∷ xs) (suc i) v l = inserted-at xs i v (omega arith)

pub inserted-behind : (xs : List ℕ) (i v h : ℕ) → i ≤ length xs → i ≤ h → get_or (inserted xs i v) (suc h) 0 ≡ get_or xs h 0
unfolding inserted
inserted-behind xs zero v h l b = refl
inserted-behind [] (suc i) v h l b = absurd (omega arith)
inserted-behind (x ∷ xs) (suc i) v zero l b = absurd (omega arith)
inserted-behind (x ∷ xs) (suc i) v (suc h) l b = inserted-behind xs i v h (omega arith) (omega arith)

pub struck-before : (xs : List ℕ) (i h : ℕ) → h < i → get_or (struck xs i) h 0 ≡ get_or xs h 0
unfolding struck
struck-before [] zero h b = absurd (omega arith)
struck-before [] (suc i) h b = refl
struck-before (x ∷ xs) zero h b = absurd (omega arith)
struck-before (x ∷ xs) (suc i) zero b = refl
struck-before (x ∷ xs) (suc i) (suc h) b = struck-before xs i h (omega arith)

pub struck-behind : (xs : List ℕ) (i h : ℕ) → i ≤ h → get_or (struck xs i) h 0 ≡ get_or xs (suc h) 0
unfolding struck
struck-behind [] zero h b = refl
struck-behind [] (suc i) h b = refl
struck-behind (x ∷ xs) zero h b = refl
struck-behind (x ∷ xs) (suc i) zero b = absurd (omega arith)
struck-behind (x ∷ xs) (suc i) (suc h) b = struck-behind xs i h (omega arith)
