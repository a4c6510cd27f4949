-- The sums of two lists: their counts and readings. Assumes nothing.
use mathlib.Core.List.{List, []}
use mathlib.Core.Path.{◌≡◌, refl, sym, ap, ap₂, ◌∙◌}
use Prim.Native.Nat.{ℕ, zero, suc, ◌+◌, ◌≤◌, min, max}
use native.Mathlib.Decide.{dec_le}
use native.Mathlib.Omega.{arith}
use lib.ListN.{length, get_or, get_or-eq_default}
use lib.Seq.{ext_get_or, take_all}
use Rattle.lists.specs.Lists.{reading, sum, tabulate}
use Rattle.lists.proofs.Parts.{take-smaller}
use Rattle.lists.proofs.Sums.{sum-tabulate}
use Rattle.lists.proofs.Tables.{get_d_tabulate, length-tabulate, tabulate-ext}
use Rattle.image_merge.specs.Merge.{sums}

-- N is the larger
pub length-sums : (xs ys : List ℕ) → length (sums xs ys) ≡ max (length xs) (length ys)
unfolding sums
length-sums xs ys = length-tabulate (max (length xs) (length ys)) _

-- the count of every hour, 0 beyond an end
pub get-sums : (xs ys : List ℕ) (i : ℕ) → get_or (sums xs ys) i 0 ≡ get_or xs i 0 + get_or ys i 0
unfolding sums
get-sums xs ys i = go (dec_le (max (length xs) (length ys)) i)
  where
    go : Dec (max (length xs) (length ys) ≤ i) → get_or (sums xs ys) i 0 ≡ get_or xs i 0 + get_or ys i 0
    go (no l) = get_d_tabulate (max (length xs) (length ys)) (λ j. get_or xs j 0 + get_or ys j 0) i 0 (omega arith)
    go (yes l) =
        let u : get_or xs i 0 ≡ 0 = get_or-eq_default xs 0 {n = i} (omega arith) in
        let v : get_or ys i 0 ≡ 0 = get_or-eq_default ys 0 {n = i} (omega arith) in
        let w : get_or (sums xs ys) i 0 ≡ 0 = get_or-eq_default (sums xs ys) 0 {n = i} (omega (arith, length-sums xs ys)) in
        omega arith

-- ---- the reading
sum_both : (n : ℕ) (f g : ℕ → ℕ) → sum (tabulate n (λ j. f j + g j)) ≡ sum (tabulate n f) + sum (tabulate n g)
unfolding sum tabulate
sum_both zero f g = refl
sum_both (suc n) f g = let r = sum_both n (λ j. f (suc j)) (λ j. g (suc j)) in omega (arith, r)

pub reading-sums : (xs ys : List ℕ) (i : ℕ) → reading (sums xs ys) i ≡ reading xs i + reading ys i
reading-sums xs ys i =
    sym (sum-tabulate i (sums xs ys))
    ∙ ap sum (tabulate-ext i (λ j. get_or (sums xs ys) j 0) (λ j. get_or xs j 0 + get_or ys j 0) (λ j _. get-sums xs ys j))
    ∙ sum_both i (λ j. get_or xs j 0) (λ j. get_or ys j 0)
    ∙ ap₂ ◌+◌ (sum-tabulate i xs) (sum-tabulate i ys)

-- a reading beyond the end is held at the total
pub held : (xs : List ℕ) (i : ℕ) → reading xs (min i (length xs)) ≡ reading xs i
held xs i = ap sum (take-smaller xs i (min i (length xs)) refl)

-- 'The reading at every hour is the sum of the two readings, each held at its own total beyond its end'
pub readings-add : (xs ys : List ℕ) (i : ℕ)
    → reading (sums xs ys) i ≡ reading xs (min i (length xs)) + reading ys (min i (length ys))
readings-add xs ys i = reading-sums xs ys i ∙ sym (ap₂ ◌+◌ (held xs i) (held ys i))

-- ---- merging is commutative, and the empty log changes nothing
pub sum-sums : (xs ys : List ℕ) → sum (sums xs ys) ≡ sum xs + sum ys
sum-sums xs ys =
    let k : ℕ = length xs + length ys in
    ap sum (sym (take_all k (sums xs ys) (omega (arith, length-sums xs ys)))) ∙ reading-sums xs ys k
    ∙ ap₂ ◌+◌ (ap sum (take_all k xs (omega arith))) (ap sum (take_all k ys (omega arith)))

pub sums-swap : (xs ys : List ℕ) → sums xs ys ≡ sums ys xs
sums-swap xs ys =
    ext_get_or 0 (sums xs ys) (sums ys xs) (omega (arith, length-sums xs ys, length-sums ys xs))
    (λ i _. omega (arith, get-sums xs ys i, get-sums ys xs i))

pub sums_none : (xs : List ℕ) → sums xs [] ≡ xs
sums_none xs = ext_get_or 0 (sums xs []) xs (omega (arith, length-sums xs [])) (λ i _. get-sums xs [] i ∙ omega arith)
