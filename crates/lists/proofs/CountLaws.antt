-- Counts with a limit, in parts of lists and in lists joined. Assumes nothing.
use mathlib.Core.Path.{◌≡◌, refl, ap, ◌∙◌}
use mathlib.Core.Bool.{Bool, true, false, ◌&&◌}
use mathlib.Core.List.{List, [], ◌∷◌, ◌++◌}
use Prim.Native.Nat.{ℕ, zero, suc, ◌≤◌, ◌<◌}
use native.Mathlib.Omega.{arith}
use lib.ListN.{get_or, take}
use lib.Dec.{leb}
use borrow.Author.Tests.{le-leb, leb-false, leb-true}
use Rattle.lists.specs.Counts.{within}
use Rattle.lists.specs.Lists.{concat, every, sum, tabulate}
use Rattle.lists.proofs.Tests.{both, left, right}

pub within-append : (w : ℕ) (xs ys : List ℕ) → within w (xs ++ ys) ≡ (within w xs && within w ys)
unfolding within every
within-append w [] ys = refl
within-append w (x ∷ xs) ys = ap (λ (t : Bool). leb x w && t) (within-append w xs ys) ∙ go (leb x w)
  where
    go : (a : Bool) → (a && (within w xs && within w ys)) ≡ ((a && within w xs) && within w ys)
    go true = refl
    go false = refl

pub within-at : (w : ℕ) (xs : List ℕ) → within w xs ≡ true → (i : ℕ) → get_or xs i 0 ≤ w
unfolding within every
within-at w [] h i = omega arith
within-at w (x ∷ xs) h zero = leb-true x w (left (leb x w) (within w xs) h)
within-at w (x ∷ xs) h (suc i) = within-at w xs (right (leb x w) (within w xs) h) i

pub within-each : (w : ℕ) (xs : List ℕ) → ((i : ℕ) → get_or xs i 0 ≤ w) → within w xs ≡ true
unfolding within every
within-each w [] h = refl
within-each w (x ∷ xs) h = both (le-leb x w (h 0)) (within-each w xs (λ i. h (suc i)))

-- no count is above the sum
pub within-sum : (w : ℕ) (xs : List ℕ) → sum xs ≤ w → within w xs ≡ true
unfolding within every sum
within-sum w [] h = refl
within-sum w (x ∷ xs) h = both (le-leb x w (omega arith)) (within-sum w xs (omega arith))

pub within-take : (w n : ℕ) (xs : List ℕ) → within w xs ≡ true → within w (take n xs) ≡ true
unfolding within every
within-take w zero xs h = refl
within-take w (suc n) [] h = refl
within-take w (suc n) (x ∷ xs) h = both (left (leb x w) (within w xs) h) (within-take w n xs (right (leb x w) (within w xs) h))

pub within_concat : (w k : ℕ) (f : ℕ → List ℕ) → ((p : ℕ) → p < k → within w (f p) ≡ true) → within w (concat (tabulate k f)) ≡ true
unfolding within every tabulate concat
within_concat w zero f h = refl
within_concat w (suc k) f h =
    within-append w (f 0) (concat (tabulate k (λ j. f (suc j)))) ∙ both (h 0 (omega arith)) (within_concat w k (λ j. f (suc j)) (λ p l. h (suc p) (omega arith)))

-- ---- a list that has a number above the limit, and which
one-above : (w x : ℕ) (xs : List ℕ) → (within w xs ≡ false → (i : ℕ) × (w < get_or xs i 0)) → (a : Bool) → leb x w ≡ a → (b : Bool) → within w xs ≡ b
    → (a && b) ≡ false → (i : ℕ) × (w < get_or (x ∷ xs) i 0)
one-above w x xs r false p b q e = (0, leb-false x w p)
one-above w x xs r true p true q e = let z : ◌≡◌ {A = ℕ} 0 1 = cc in absurd (omega arith)
one-above w x xs r true p false q e = let y = r q in (suc y.0, y.1)

pub within-not : (w : ℕ) (xs : List ℕ) → within w xs ≡ false → (i : ℕ) × (w < get_or xs i 0)
unfolding within every
within-not w [] h = let z : ◌≡◌ {A = ℕ} 0 1 = cc in absurd (omega arith)
within-not w (x ∷ xs) h = one-above w x xs (λ q. within-not w xs q) (leb x w) refl (within w xs) refl h

pub not_within : (w : ℕ) (xs : List ℕ) (i : ℕ) → w < get_or xs i 0 → within w xs ≡ false
not_within w xs i h = go (within w xs) refl
  where
    go : (t : Bool) → within w xs ≡ t → within w xs ≡ false
    go false e = e
    go true e = absurd (omega (arith, within-at w xs e i))
