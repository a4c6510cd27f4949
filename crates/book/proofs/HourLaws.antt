-- The hours of a book, put into a list one after another. Assumes nothing.
use mathlib.Core.Path.{◌≡◌, refl, sym, ap, ap₂, ◌∙◌}
use mathlib.Core.Bool.{true, false, ◌&&◌, and-true, and_assoc}
use mathlib.Core.List.{List, ◌++◌, append-nil, map}
use Prim.Native.Nat.{ℕ, ◌+◌, ◌-◌, ◌%◌, ◌≤◌, ◌<◌, max}
use native.Mathlib.Decide.{dec_lt}
use native.Mathlib.Numerals.{add-one}
use native.Mathlib.Omega.{arith}
use lib.ListN.{length, get_or, take, drop, replicate, length-append, length-drop, length-replicate, drop_of_length-le, get_or-append, get_or-eq_default}
use lib.Seq.{drop-cons, ext_get_or, get_or-append-add, get_or-take, length-take-le}
use borrow.Rule.Slice.PartMut.{put_mid}
use lib.Dec.{eqb}
use borrow.Author.Tests.{eq-eqb, eqb-true, ne_eqb}
use Rattle.lists.specs.Lists.{every, sum, tabulate, window}
use Rattle.lists.proofs.Blocks.{window-get, window-long}
use Rattle.lists.proofs.Sums.{sum-next}
use Rattle.lists.proofs.Tests.{agree, both, left, right}
use Rattle.lists.proofs.Zeros.{zeros-at}
use Rattle.book.specs.Book.{decimal, decimal_byte}

-- ---- the bytes from i on, tested one after another
pub odd : (b : List ℕ) → (length b % 2 ≡ 0 → ⊥) → false ≡ decimal b
unfolding decimal
odd b h = rw (ne_eqb (length b % 2) 0 h)

pub even : (b : List ℕ) → length b % 2 ≡ 0 → decimal b ≡ every (map decimal_byte (drop 0 b))
unfolding decimal
even b h = rw (eq-eqb (length b % 2) 0 h)

-- the worse of two faults is none where both are none
worse : (w d : ℕ) → eqb (max w d) 0 ≡ (eqb w 0 && eqb d 0)
worse w d = agree (eqb (max w d) 0) (eqb w 0 && eqb d 0) on back
  where
    on : eqb (max w d) 0 ≡ true → (eqb w 0 && eqb d 0) ≡ true
    on h = let q : max w d ≡ 0 = eqb-true (max w d) 0 h in both (eq-eqb w 0 (omega arith)) (eq-eqb d 0 (omega arith))

    back : (eqb w 0 && eqb d 0) ≡ true → eqb (max w d) 0 ≡ true
    back h =
        let p : w ≡ 0 = eqb-true w 0 (left (eqb w 0) (eqb d 0) h) in
        let q : d ≡ 0 = eqb-true d 0 (right (eqb w 0) (eqb d 0) h) in
        eq-eqb (max w d) 0 (omega arith)

pub rest-on : (b : List ℕ) (i w d r : ℕ) → i < length b → eqb d 0 ≡ decimal_byte (get_or b i 0) → r ≡ max w d
    → (eqb w 0 && every (map decimal_byte (drop i b))) ≡ (eqb r 0 && every (map decimal_byte (drop (i + 1) b)))
unfolding every
rest-on b i w d r l h q = rw (add-one, drop-cons b i 0 l, ← h, q, worse w d, and_assoc)

pub rest_end : (b : List ℕ) (i w : ℕ) → length b ≤ i → (eqb w 0 && every (map decimal_byte (drop i b))) ≡ eqb w 0
unfolding every
rest_end b i w l = rw (drop_of_length-le b {i = i} l) (and-true (eqb w 0))

-- ---- the hours that a book has, zeros behind them
module _ (l m xs : List ℕ) (from i k : ℕ) (put : (j : ℕ) → j < i → get_or l j 0 ≡ get_or xs (from + j) 0) (none : m ≡ replicate k 0)
    (whole : i + k ≡ length l) (end : 0 < k → length xs ≤ from + i) where
  own-long : length (take i l) ≡ i
  own-long = length-take-le i l (omega arith)

  put-at : (j : ℕ) → j < i + k → get_or (take i l ++ m) j 0 ≡ get_or xs (from + j) 0
  put-at j h = go (dec_lt j i)
    where
      go : Dec (j < i) → get_or (take i l ++ m) j 0 ≡ get_or xs (from + j) 0
      go (yes a) = get_or-append (take i l) m 0 j (omega (arith, own-long)) ∙ get_or-take i l j 0 a ∙ put j a
      go (no b) =
          ap (λ (z : ℕ). get_or (take i l ++ m) z 0) {x = j} {y = length (take i l) + (j - i)} (omega (arith, own-long))
          ∙ get_or-append-add (take i l) m (j - i) 0 ∙ ap (λ (z : List ℕ). get_or z (j - i) 0) none ∙ zeros-at k (j - i)
          ∙ sym (get_or-eq_default xs 0 {n = from + j} (omega (arith, end (omega arith))))

  pub hours-put : put_mid i k l m ≡ window xs from (length l)
  hours-put =
      let long : length (take i l ++ m) ≡ length l =
      omega (arith, own-long, length-append (take i l) m, ap length none, length-replicate {A = ℕ} k 0) in
      ap (λ (z : List ℕ). take i l ++ (m ++ z)) (drop_of_length-le (drop i l) {i = k} (omega (arith, length-drop i l)))
      ∙ ap (λ (z : List ℕ). take i l ++ z) (append-nil m)
      ∙ ext_get_or 0 (take i l ++ m) (window xs from (length l)) (long ∙ sym (window-long xs from (length l)))
      (λ j h. put-at j (omega (arith, long)) ∙ sym (window-get xs from (length l) j (omega (arith, long))))

-- ---- sums
pub sum_more : (xs : List ℕ) (from i t x : ℕ) → t ≡ sum (window xs from i) → x ≡ get_or xs (from + i) 0 → t + x ≡ sum (window xs from (i + 1))
unfolding window
sum_more xs from i t x q r = ap₂ ◌+◌ q r ∙ sym (sum-next (λ j. get_or xs (from + j) 0) i)

pub sum-start : (xs : List ℕ) (from : ℕ) → 0 ≡ sum (window xs from 0)
unfolding window tabulate sum
sum-start xs from = refl
