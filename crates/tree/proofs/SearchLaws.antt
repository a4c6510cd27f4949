-- The search by prefix sum in a tree's code finds the least index. Assumes nothing.
use mathlib.Core.Path.{◌≡◌, refl, sym, ap, ◌∙◌}
use mathlib.Core.Bool.{Bool, true, false}
use mathlib.Core.List.{List, [], ◌∷◌, ◌++◌}
use Prim.Native.Nat.{ℕ, zero, suc, ◌+◌, ◌-◌, ◌^◌, ◌≤◌, ◌<◌}
use native.Mathlib.Omega.{arith}
use native.Mathlib.Decide.{dec_le}
use lib.Dec.{leb}
use lib.ListN.{length, take, drop, take-append-drop}
use borrow.Author.Tests.{le-leb, lt-leb}
use Rattle.reserve.specs.Reserve.{reserve}
use Rattle.lists.specs.Lists.{sum, pick, part, reached}
use Rattle.tree.specs.Tree.{tree}
use Rattle.tree.specs.Read.{left_of, left_at, right_at, Sought, nowhere, at-index, shifted, seek}
use Rattle.lists.proofs.Sums.{sum-halves, sum-take-le}
use Rattle.lists.proofs.Reach.{reached-suc, reached-nil, reached-left, reached-right}
use Rattle.tree.proofs.Shape.{left-read, left-region, right-region, rest-is, left-long, right-long}

moved : (n i : ℕ) → shifted n (at-index i) ≡ at-index (n + i)
unfolding shifted
moved n i = refl

pub seek-left : (h s l : ℕ) (b : List ℕ) (a q : ℕ) → left_of s b a ≡ l → l ≤ s → q ≤ l → seek (suc h) s b a q ≡ seek h l b (left_at s a) q
unfolding seek pick
seek-left h s l b a q e i k = rw (e, le-leb l s i, le-leb q l k)

pub seek-right : (h s l : ℕ) (b : List ℕ) (a q : ℕ) → left_of s b a ≡ l → l ≤ s → l < q
    → seek (suc h) s b a q ≡ shifted (2 ^ h) (seek h (s - l) b (right_at h s l a) (q - l))
unfolding seek pick
seek-right h s l b a q e i k = rw (e, le-leb l s i, lt-leb q l k)

lone : (l : List ℕ) (q : ℕ) → length l ≡ 1 → 1 ≤ q → at-index 1 ≡ at-index (reached q l)
unfolding reached
lone [] q e k = absurd (omega (arith, e))
lone (x ∷ []) q e k = ap at-index (sym (reached-suc q x [] k ∙ ap suc (reached-nil (q - x))))
lone (x ∷ y ∷ l) q e k = absurd (omega (arith, e))

pub seek-tree : (h : ℕ) (xs b : List ℕ) (a q : ℕ) → length xs ≡ 2 ^ h → 1 ≤ q → q ≤ sum xs → part b a (reserve h (sum xs)) ≡ tree h xs
    → seek h (sum xs) b a q ≡ at-index (reached q xs)
unfolding seek
seek-tree zero xs b a q n k m e = lone xs q n k
seek-tree (suc h) xs b a q n k m e =
    go (dec_le q (sum (take (2 ^ h) xs))) (λ i. seek-tree h (take (2 ^ h) xs) b (left_at (sum xs) a) q (left-long h xs n) k i (left-region h xs b a e))
    (λ i j. seek-tree h (drop (2 ^ h) xs) b (right_at h (sum xs) (sum (take (2 ^ h) xs)) a) (q - sum (take (2 ^ h) xs)) (right-long h xs n) i j
    (right-region h xs b a e))
  where
    whole : (r : ℕ) → reached r (take (2 ^ h) xs ++ drop (2 ^ h) xs) ≡ reached r xs
    whole r = ap (reached r) (take-append-drop (2 ^ h) xs)

    go : Dec (q ≤ sum (take (2 ^ h) xs)) → (q ≤ sum (take (2 ^ h) xs)
        → seek h (sum (take (2 ^ h) xs)) b (left_at (sum xs) a) q ≡ at-index (reached q (take (2 ^ h) xs)))
        → (1 ≤ q - sum (take (2 ^ h) xs) → q - sum (take (2 ^ h) xs) ≤ sum (drop (2 ^ h) xs)
        → seek h (sum (drop (2 ^ h) xs)) b (right_at h (sum xs) (sum (take (2 ^ h) xs)) a) (q - sum (take (2 ^ h) xs)) ≡ at-index
        (reached (q - sum (take (2 ^ h) xs)) (drop (2 ^ h) xs)))
        → seek (suc h) (sum xs) b a q ≡ at-index (reached q xs)
    go (yes i) p r =
        seek-left h (sum xs) (sum (take (2 ^ h) xs)) b a q (left-read h xs b a e) (sum-take-le (2 ^ h) xs) i ∙ p i
        ∙ ap at-index (sym (reached-left q (take (2 ^ h) xs) (drop (2 ^ h) xs) i) ∙ whole q)
    go (no i) p r =
        seek-right h (sum xs) (sum (take (2 ^ h) xs)) b a q (left-read h xs b a e) (sum-take-le (2 ^ h) xs) (omega arith)
        ∙ ap (λ (z : ℕ). shifted (2 ^ h) (seek h z b (right_at h (sum xs) (sum (take (2 ^ h) xs)) a) (q - sum (take (2 ^ h) xs)))) (rest-is h xs b a e)
        ∙ ap (shifted (2 ^ h)) (r (omega arith) (omega (arith, sum-halves (2 ^ h) xs)))
        ∙ moved (2 ^ h) (reached (q - sum (take (2 ^ h) xs)) (drop (2 ^ h) xs))
        ∙ ap at-index (ap (λ (z : ℕ). z + reached (q - sum (take (2 ^ h) xs)) (drop (2 ^ h) xs)) (sym (left-long h xs n))
        ∙ sym (reached-right q (take (2 ^ h) xs) (drop (2 ^ h) xs) (omega arith)) ∙ whole q)

-- ---- an index that is found is 1 or more
abbrev pub Positive : Sought → Type 0
Positive nowhere = Unit {0}
Positive (at-index i) = 1 ≤ i

shifted-on : (n : ℕ) (f : Sought) → Positive f → Positive (shifted n f)
unfolding shifted
shifted-on n nowhere p = tt
shifted-on n (at-index i) p = omega arith

either-way : (t u : Bool) (f g : Sought) → Positive f → Positive g → Positive (pick t (pick u f g) nowhere)
unfolding pick
either-way true true f g p q = p
either-way true false f g p q = q
either-way false u f g p q = tt

pub seek-positive : (h s : ℕ) (b : List ℕ) (a q : ℕ) → Positive (seek h s b a q)
unfolding seek
seek-positive zero s b a q = omega arith
seek-positive (suc h) s b a q =
    let l : ℕ = left_of s b a in
    either-way (leb l s) (leb q l) _ _ (seek-positive h l b (left_at s a) q)
    (shifted-on (2 ^ h) _ (seek-positive h (s - l) b (right_at h s l a) (q - l)))
