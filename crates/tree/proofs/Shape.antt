-- A tree's code: its length, its parts' places, and the counts that are read of it. Assumes nothing.
use mathlib.Core.Path.{◌≡◌, refl, sym, ap, ap₂, ◌∙◌}
use mathlib.Core.List.{List, [], ◌∷◌, ◌++◌, append_assoc}
use Prim.Native.Nat.{ℕ, zero, suc, ◌+◌, ◌-◌, ◌^◌, ◌≤◌}
use native.Mathlib.Nat.{pow-succ', add-zero}
use native.Mathlib.Omega.{arith}
use lib.ListN.{length, take, drop, replicate, length-append, length-take, length-drop, take-append-drop}
use Rattle.bits.specs.Bits.{field, value}
use Rattle.bits.proofs.Laws.{length-field}
use Rattle.reserve.specs.Reserve.{digits, reserve}
use Rattle.reserve.proofs.Exact.{digits-is}
use Rattle.reserve.proofs.Fit.{fit_all, one-count}
use Rattle.lists.specs.Lists.{sum, part, fill, splice}
use Rattle.tree.specs.Tree.{tree}
use Rattle.tree.specs.Read.{left_of, left_at, right_at, counts}
use Rattle.lists.proofs.Parts.{length-splice, piece}
use Rattle.lists.proofs.Sums.{sum-halves}
use Rattle.bits.proofs.Packing.{Bits, bits-join, bits-field, bits-fill, length-fill, value-field}

-- the three parts of an inner node's code
abbrev F : ℕ → List ℕ → List ℕ
F h xs = field (digits (sum xs)) (sum (take (2 ^ h) xs))

abbrev inner : ℕ → List ℕ → List ℕ
inner h xs = F h xs ++ (tree h (take (2 ^ h) xs) ++ tree h (drop (2 ^ h) xs))

length-inner : (h : ℕ) (xs : List ℕ) → length (tree h (take (2 ^ h) xs)) ≡ reserve h (sum (take (2 ^ h) xs))
    → length (tree h (drop (2 ^ h) xs)) ≡ reserve h (sum (drop (2 ^ h) xs))
    → length (inner h xs) ≡ digits (sum xs) + (reserve h (sum (take (2 ^ h) xs)) + reserve h (sum (drop (2 ^ h) xs)))
length-inner h xs a b =
    length-append (F h xs) (tree h (take (2 ^ h) xs) ++ tree h (drop (2 ^ h) xs))
    ∙ ap₂ ◌+◌ (length-field (digits (sum xs)) (sum (take (2 ^ h) xs))) (length-append (tree h (take (2 ^ h) xs)) (tree h (drop (2 ^ h) xs)) ∙ ap₂ ◌+◌ a b)

-- a tree's code is exactly as long as its reserve
pub length-tree : (h : ℕ) (xs : List ℕ) → length (tree h xs) ≡ reserve h (sum xs)
unfolding tree
length-tree zero xs = sym (one-count (sum xs))
length-tree (suc h) xs =
    let i = length-inner h xs (length-tree h (take (2 ^ h) xs)) (length-tree h (drop (2 ^ h) xs)) in
    length-fill (reserve (suc h) (sum xs)) (inner h xs) (omega
    (arith, i, fit_all h (sum xs) (sum (take (2 ^ h) xs)) (sum (drop (2 ^ h) xs)) (sum-halves (2 ^ h) xs)))

pub bits-tree : (h : ℕ) (xs : List ℕ) → Bits (tree h xs)
unfolding tree
bits-tree zero xs = tt
bits-tree (suc h) xs =
    bits-fill (reserve (suc h) (sum xs)) (inner h xs)
    (bits-join (F h xs) (tree h (take (2 ^ h) xs) ++ tree h (drop (2 ^ h) xs)) (bits-field (digits (sum xs)) (sum (take (2 ^ h) xs)))
    (bits-join (tree h (take (2 ^ h) xs)) (tree h (drop (2 ^ h) xs)) (bits-tree h (take (2 ^ h) xs)) (bits-tree h (drop (2 ^ h) xs))))

-- 'at s = 0 it has none'
pub tree-none : (h : ℕ) (xs : List ℕ) → sum xs ≡ 0 → tree h xs ≡ []
unfolding reserve
tree-none h xs e = empty (tree h xs) (length-tree h xs ∙ ap (reserve h) e)
  where
    empty : (l : List ℕ) → length l ≡ 0 → l ≡ []
    empty [] q = refl
    empty (x ∷ l) q = absurd (omega (arith, q))

-- ---- a region of bits that holds a tree
module _ (h : ℕ) (xs b : List ℕ) (a : ℕ) (e : part b a (reserve (suc h) (sum xs)) ≡ tree (suc h) xs) where
  abbrev L : List ℕ
  L = take (2 ^ h) xs

  abbrev M : List ℕ
  M = drop (2 ^ h) xs

  abbrev Z : List ℕ
  Z = replicate (reserve (suc h) (sum xs) - length (inner h xs)) 0

  parts : part b a (reserve (suc h) (sum xs)) ≡ F h xs ++ (tree h L ++ (tree h M ++ Z))
  unfolding tree fill
  parts = e ∙ append_assoc (F h xs) (tree h L ++ tree h M) Z ∙ ap (λ (x : List ℕ). F h xs ++ x) (append_assoc (tree h L) (tree h M) Z)

  halves : sum L + sum M ≡ sum xs
  halves = sum-halves (2 ^ h) xs

  lF : length (F h xs) ≡ digits (sum xs)
  lF = length-field (digits (sum xs)) (sum L)

  fits : digits (sum xs) + reserve h (sum L) + reserve h (sum M) ≤ reserve (suc h) (sum xs)
  fits = fit_all h (sum xs) (sum L) (sum M) halves

  pub left-read : left_of (sum xs) b a ≡ sum L
  unfolding left_of
  left-read =
      ap value (ap (λ (k : ℕ). part b k (digits (sum xs))) (sym (add-zero a))
      ∙ piece b a (reserve (suc h) (sum xs)) [] (F h xs) (tree h L ++ (tree h M ++ Z)) 0 (digits (sum xs)) parts refl lF (omega (arith, fits)))
      ∙ value-field (digits (sum xs)) (sum L) (omega (arith, digits-is (sum xs), halves))

  pub left-region : part b (left_at (sum xs) a) (reserve h (sum L)) ≡ tree h L
  left-region =
      piece b a (reserve (suc h) (sum xs)) (F h xs) (tree h L) (tree h M ++ Z) (digits (sum xs)) (reserve h (sum L)) parts lF (length-tree h L)
      (omega (arith, fits))

  pub right-region : part b (right_at h (sum xs) (sum L) a) (reserve h (sum M)) ≡ tree h M
  right-region =
      ap (λ (k : ℕ). part b k (reserve h (sum M))) assoc
      ∙ piece b a (reserve (suc h) (sum xs)) (F h xs ++ tree h L) (tree h M) Z (digits (sum xs) + reserve h (sum L)) (reserve h (sum M))
      (parts ∙ sym (append_assoc (F h xs) (tree h L) (tree h M ++ Z)))
      (length-append (F h xs) (tree h L) ∙ ap₂ ◌+◌ lF (length-tree h L)) (length-tree h M) (omega (arith, fits))
    where
      assoc : a + digits (sum xs) + reserve h (sum L) ≡ a + (digits (sum xs) + reserve h (sum L))
      assoc = omega arith

  pub rest-is : sum xs - sum L ≡ sum M
  rest-is = omega (arith, halves)

one : (l : List ℕ) → length l ≡ 1 → sum l ∷ [] ≡ l
unfolding sum
one [] e = absurd (omega (arith, e))
one (x ∷ []) e = ap (λ (k : ℕ). k ∷ []) (add-zero x)
one (x ∷ y ∷ l) e = absurd (omega (arith, e))

pub left-long : (h : ℕ) (xs : List ℕ) → length xs ≡ 2 ^ suc h → length (take (2 ^ h) xs) ≡ 2 ^ h
left-long h xs n = omega (arith, length-take (2 ^ h) xs, pow-succ' 2 h)

pub right-long : (h : ℕ) (xs : List ℕ) → length xs ≡ 2 ^ suc h → length (drop (2 ^ h) xs) ≡ 2 ^ h
right-long h xs n = omega (arith, length-drop (2 ^ h) xs, pow-succ' 2 h)

pub length-counts : (h s : ℕ) (b : List ℕ) (a : ℕ) → length (counts h s b a) ≡ 2 ^ h
unfolding counts
length-counts zero s b a = refl
length-counts (suc h) s b a =
    let l : ℕ = left_of s b a in
    length-append (counts h l b (left_at s a)) (counts h (s - l) b (right_at h s l a))
    ∙ omega (arith, length-counts h l b (left_at s a), length-counts h (s - l) b (right_at h s l a), pow-succ' 2 h)

-- an array that they are put into is as long as it was
pub still-long : (h s : ℕ) (b : List ℕ) (a : ℕ) (o r : List ℕ) (i n : ℕ) → length o ≡ n → i + 2 ^ h ≤ n → r ≡ splice o i (counts h s b a)
    → length r ≡ n
still-long h s b a o r i n e fits f = ap length f ∙ length-splice o i (counts h s b a) (omega (arith, length-counts h s b a)) ∙ e

-- what is read is what was written
pub counts-tree : (h : ℕ) (xs b : List ℕ) (a : ℕ) → length xs ≡ 2 ^ h → part b a (reserve h (sum xs)) ≡ tree h xs → counts h (sum xs) b a ≡ xs
unfolding counts
counts-tree zero xs b a n e = one xs n
counts-tree (suc h) xs b a n e =
    rw (
      left-read h xs b a e,
      rest-is h xs b a e,
      counts-tree h (take (2 ^ h) xs) b (left_at (sum xs) a) (left-long h xs n) (left-region h xs b a e),
      counts-tree h (drop (2 ^ h) xs) b (right_at h (sum xs) (sum (take (2 ^ h) xs)) a) (right-long h xs n) (right-region h xs b a e),
    )
    (take-append-drop (2 ^ h) xs)
