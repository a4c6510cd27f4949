-- Lists of numbers, as the definitions of every crate above use them. Assumes nothing.
use Rattle.std.specs.Prelude.{Bool, true, false, ◌&&◌, List, [], ◌∷◌, ◌++◌, ℕ, zero, suc, ◌+◌, ◌-◌, length, get_or, take, drop, replicate, leb, eqb}

-- f 0, f 1, .. f (n - 1)
unfoldable pub tabulate : {A : Type 0} → ℕ → (ℕ → A) → List A
tabulate zero f = []
tabulate (suc n) f = f 0 ∷ tabulate n (λ j. f (suc j))

-- lists joined, one after another
unfoldable pub concat : List (List ℕ) → List ℕ
concat [] = []
concat (x ∷ xs) = x ++ concat xs

unfoldable pub sum : List ℕ → ℕ
sum [] = 0
sum (x ∷ xs) = x + sum xs

-- a choice
unfoldable pub pick : {A : Type 0} → Bool → A → A → A
pick true a b = a
pick false a b = b

-- all of these tests hold
unfoldable pub every : List Bool → Bool
every [] = true
every (b ∷ bs) = b && every bs

-- two lists of numbers are the same
unfoldable pub same : List ℕ → List ℕ → Bool
same [] [] = true
same [] (y ∷ ys) = false
same (x ∷ xs) [] = false
same (x ∷ xs) (y ∷ ys) = eqb x y && same xs ys

-- 1 for a test that holds
unfoldable pub one : Bool → ℕ
one true = 1
one false = 0

-- how often c stands in a list
unfoldable pub occurrences : ℕ → List ℕ → ℕ
occurrences c [] = 0
occurrences c (d ∷ ds) = one (eqb c d) + occurrences c ds

-- a list's first number, 0 if it has none
unfoldable pub first : List ℕ → ℕ
first [] = 0
first (x ∷ xs) = x

-- the n elements from a on
abbrev pub part : List ℕ → ℕ → ℕ → List ℕ
part s a n = take n (drop a s)

-- the list l with the elements from a on replaced by m
unfoldable pub splice : List ℕ → ℕ → List ℕ → List ℕ
splice l a m = take a l ++ (m ++ drop (a + length m) l)

-- a list filled up with zeros to n elements
unfoldable pub fill : ℕ → List ℕ → List ℕ
fill n bs = bs ++ replicate (n - length bs) 0

-- the smallest i below n for which f holds, n if there is none
unfoldable pub least : ℕ → (ℕ → Bool) → ℕ
least zero f = 0
least (suc n) f = pick (f 0) 0 (suc (least n (λ i. f (suc i))))

-- document 01's reading at i: 'the sum of counts 0 to i-1'. A prefix sum
abbrev pub reading : List ℕ → ℕ → ℕ
reading xs i = sum (take i xs)

-- document 01's reach: 'the smallest i with reading at i ≥ p'
unfoldable pub reached : ℕ → List ℕ → ℕ
reached p xs = least (length xs) (λ i. leb p (reading xs i))

-- the n numbers from index i on, 0 from the list's end on
unfoldable pub window : List ℕ → ℕ → ℕ → List ℕ
window xs i n = tabulate n (λ j. get_or xs (i + j) 0)
