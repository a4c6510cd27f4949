-- The sum of a run, by the readings at its two ends. Assumes nothing.
use mathlib.Core.List.{List}
use mathlib.Core.Path.{◌≡◌, refl, ap, ◌∙◌}
use Prim.Native.Nat.{ℕ, zero, suc, ◌+◌, ◌-◌, ◌≤◌, ◌<◌}
use native.Mathlib.Nat.{zero-add}
use native.Mathlib.Numerals.{add-one}
use native.Mathlib.Omega.{arith}
use lib.ListN.{length, get_or, take}
use lib.Seq.{take-suc}
use Rattle.lists.specs.Lists.{part, reading, sum}
use Rattle.lists.proofs.Parts.{part-more}
use Rattle.lists.proofs.Sums.{sum-append, sum-snoc}
use Rattle.runs.specs.Runs.{run_sum}

-- the reading behind a run is the one before it and the run's sum
pub run-reading : (xs : List ℕ) (j k : ℕ) → reading xs (j + k) ≡ reading xs j + run_sum xs j k
run-reading xs j k =
    ap sum (part-more xs 0 j k) ∙ sum-append (part xs 0 j) (part xs (0 + j) k)
    ∙ ap (λ (z : ℕ). reading xs j + run_sum xs z k) (zero-add j)

-- one hour more
pub reading-next : (xs : List ℕ) (i : ℕ) → i < length xs → reading xs (i + 1) ≡ reading xs i + get_or xs i 0
reading-next xs i l = rw add-one (ap sum (take-suc xs i 0 l) ∙ sum-snoc (take i xs) (get_or xs i 0))

-- later hours, no smaller a reading
pub reading-grows : (xs : List ℕ) (i j : ℕ) → i ≤ j → reading xs i ≤ reading xs j
reading-grows xs i j l =
    let e : i + (j - i) ≡ j = omega arith in
    omega (arith, run-reading xs i (j - i), ap (reading xs) e)

-- a list that holds the n hours from j on: its readings are the sums of these
pub reading-held : (xs ys : List ℕ) (j n : ℕ) → n ≤ length ys → j + n ≤ length xs → ((k : ℕ) → k < n → get_or ys k 0 ≡ get_or xs (j + k) 0)
    → (k : ℕ) → k ≤ n → reading ys k ≡ run_sum xs j k
reading-held xs ys j n l m f zero h = refl
reading-held xs ys j n l m f (suc k) h =
    let e : suc k ≡ k + 1 = omega arith in
    let g : j + suc k ≡ j + k + 1 = omega arith in
    let i : reading ys k ≡ run_sum xs j k = reading-held xs ys j n l m f k (omega arith) in
    omega (
      arith,
      i,
      f k (omega arith),
      ap (reading ys) e,
      ap (reading xs) g,
      reading-next ys k (omega arith),
      reading-next xs (j + k) (omega arith),
      run-reading xs j k,
      run-reading xs j (suc k),
    )
