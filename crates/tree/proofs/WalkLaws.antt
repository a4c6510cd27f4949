-- The walk to a count of a tree's code finds the count and the prefix sum before it. Assumes nothing.
use mathlib.Core.Path.{◌≡◌, refl, sym, ap, ap₂, ◌∙◌}
use mathlib.Core.Bool.{Bool, true, false}
use mathlib.Core.List.{List, [], ◌∷◌}
use Prim.Native.Nat.{ℕ, zero, suc, ◌+◌, ◌-◌, ◌^◌, ◌≤◌, ◌<◌}
use native.Mathlib.Nat.{pow-succ', add-zero}
use native.Mathlib.Omega.{arith}
use native.Mathlib.Decide.{dec_le}
use lib.Dec.{leb, ltb}
use lib.ListN.{length, get_or, take, drop}
use lib.Seq.{get_or-take, get_or-drop, take-take, take-add}
use borrow.Author.Tests.{le-leb, leb-true, lt-ltb, le-ltb}
use Rattle.reserve.specs.Reserve.{reserve}
use Rattle.lists.specs.Lists.{sum, pick, part}
use Rattle.tree.specs.Tree.{tree}
use Rattle.tree.specs.Read.{left_of, left_at, right_at, Found, damaged, found, later, walk}
use Rattle.lists.proofs.Sums.{sum-append, sum-take-le}
use Rattle.tree.proofs.Shape.{left-read, left-region, right-region, rest-is, left-long, right-long}

pub walk-left : (h s l : ℕ) (b : List ℕ) (a j : ℕ) → left_of s b a ≡ l → l ≤ s → j < 2 ^ h → walk (suc h) s b a j ≡ walk h l b (left_at s a) j
unfolding walk pick
walk-left h s l b a j e i k = rw (e, le-leb l s i, lt-ltb j (2 ^ h) k)

pub walk-right : (h s l : ℕ) (b : List ℕ) (a j : ℕ) → left_of s b a ≡ l → l ≤ s → 2 ^ h ≤ j
    → walk (suc h) s b a j ≡ later l (walk h (s - l) b (right_at h s l a) (j - 2 ^ h))
unfolding walk pick
walk-right h s l b a j e i k = rw (e, le-leb l s i, le-ltb j (2 ^ h) k)

pub shift : (l x c : ℕ) → later l (found x c) ≡ found (l + x) c
unfolding later
shift l x c = refl

alone : (l : List ℕ) (j : ℕ) → length l ≡ 1 → j < 1 → found 0 (sum l) ≡ found (sum (take j l)) (get_or l j 0)
unfolding sum
alone [] j e k = absurd (omega (arith, e))
alone (x ∷ []) zero e k = ap (found 0) (add-zero x)
alone (x ∷ []) (suc j) e k = absurd (omega arith)
alone (x ∷ y ∷ l) j e k = absurd (omega (arith, e))

pub walk-tree : (h : ℕ) (xs b : List ℕ) (a j : ℕ) → length xs ≡ 2 ^ h → j < 2 ^ h → part b a (reserve h (sum xs)) ≡ tree h xs
    → walk h (sum xs) b a j ≡ found (sum (take j xs)) (get_or xs j 0)
unfolding walk
walk-tree zero xs b a j n k e = alone xs j n k
walk-tree (suc h) xs b a j n k e =
    go (dec_le (suc j) (2 ^ h)) (λ i. walk-tree h L b (left_at (sum xs) a) j (left-long h xs n) i (left-region h xs b a e))
    (λ i. walk-tree h M b (right_at h (sum xs) (sum L) a) (j - 2 ^ h) (right-long h xs n) i (right-region h xs b a e))
  where
    L : List ℕ
    L = take (2 ^ h) xs

    M : List ℕ
    M = drop (2 ^ h) xs

    le : sum (take (2 ^ h) xs) ≤ sum xs
    le = sum-take-le (2 ^ h) xs

    go : Dec (suc j ≤ 2 ^ h) → (j < 2 ^ h → walk h (sum (take (2 ^ h) xs)) b (left_at (sum xs) a) j ≡ found (sum (take j (take (2 ^ h) xs)))
        (get_or (take (2 ^ h) xs) j 0))
        → (j - 2 ^ h < 2 ^ h → walk h (sum (drop (2 ^ h) xs)) b (right_at h (sum xs) (sum (take (2 ^ h) xs)) a) (j - 2 ^ h) ≡ found
        (sum (take (j - 2 ^ h) (drop (2 ^ h) xs))) (get_or (drop (2 ^ h) xs) (j - 2 ^ h) 0))
        → walk (suc h) (sum xs) b a j ≡ found (sum (take j xs)) (get_or xs j 0)
    go (yes i) p q =
        walk-left h (sum xs) (sum (take (2 ^ h) xs)) b a j (left-read h xs b a e) le i ∙ p i
        ∙ ap₂ found (ap sum (take-take j (2 ^ h) xs (omega arith))) (get_or-take (2 ^ h) xs j 0 i)
    go (no i) p q =
        let m : 2 ^ h + (j - 2 ^ h) ≡ j = omega arith in
        walk-right h (sum xs) (sum (take (2 ^ h) xs)) b a j (left-read h xs b a e) le (omega arith)
        ∙ ap (λ (z : ℕ). later (sum (take (2 ^ h) xs)) (walk h z b (right_at h (sum xs) (sum (take (2 ^ h) xs)) a) (j - 2 ^ h))) (rest-is h xs b a e)
        ∙ ap (later (sum (take (2 ^ h) xs))) (q (omega (arith, pow-succ' 2 h)))
        ∙ shift (sum (take (2 ^ h) xs)) (sum (take (j - 2 ^ h) (drop (2 ^ h) xs))) (get_or (drop (2 ^ h) xs) (j - 2 ^ h) 0)
        ∙ ap₂ found
        (sym (sum-append (take (2 ^ h) xs) (take (j - 2 ^ h) (drop (2 ^ h) xs))) ∙ ap sum (sym (take-add (2 ^ h) (j - 2 ^ h) xs) ∙ ap (λ (z : ℕ). take z xs) m))
        (get_or-drop (2 ^ h) xs (j - 2 ^ h) 0 ∙ ap (λ (z : ℕ). get_or xs z 0) m)

-- ---- what is found is no more than the sum
abbrev pub Most : ℕ → Found → Type 0
Most s damaged = Unit {0}
Most s (found x c) = x + c ≤ s

pub most-later : (l s : ℕ) (f : Found) → l ≤ s → Most (s - l) f → Most s (later l f)
unfolding later
most-later l s damaged i m = tt
most-later l s (found x c) i m = omega arith

pub most-up : (l s : ℕ) (f : Found) → l ≤ s → Most l f → Most s f
most-up l s damaged i m = tt
most-up l s (found x c) i m = omega arith

walk-node : (h s l : ℕ) (b : List ℕ) (a j : ℕ) (t u : Bool) → leb l s ≡ t → Most l (walk h l b (left_at s a) j)
    → Most (s - l) (walk h (s - l) b (right_at h s l a) (j - 2 ^ h))
    → Most s (pick t (pick u (walk h l b (left_at s a) j) (later l (walk h (s - l) b (right_at h s l a) (j - 2 ^ h)))) damaged)
unfolding pick
walk-node h s l b a j true true e m n = most-up l s (walk h l b (left_at s a) j) (leb-true l s e) m
walk-node h s l b a j true false e m n = most-later l s (walk h (s - l) b (right_at h s l a) (j - 2 ^ h)) (leb-true l s e) n
walk-node h s l b a j false u e m n = tt

pub walk-most : (h s : ℕ) (b : List ℕ) (a j : ℕ) → Most s (walk h s b a j)
unfolding walk
walk-most zero s b a j = omega arith
walk-most (suc h) s b a j =
    let l : ℕ = left_of s b a in
    walk-node h s l b a j (leb l s) (ltb j (2 ^ h)) refl (walk-most h l b (left_at s a) j) (walk-most h (s - l) b (right_at h s l a) (j - 2 ^ h))
