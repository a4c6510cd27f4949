-- The busiest run, found by moving a window along the list; and that there is one, and one alone. Assumes nothing.
use mathlib.Core.List.{List}
use mathlib.Core.Path.{◌≡◌, refl, sym, ap, subst, ◌∙◌}
use Prim.Native.Nat.{ℕ, zero, suc, ◌+◌, ◌-◌, ◌≤◌, ◌<◌}
use native.Mathlib.Decide.{dec_le}
use native.Mathlib.Numerals.{add-one}
use native.Mathlib.Omega.{arith}
use lib.ListN.{length, get_or}
use Rattle.lists.specs.Lists.{reading}
use Rattle.runs.specs.Runs.{Busiest, run_sum}
use Rattle.runs.specs.Code.{Best}
use Rattle.runs.proofs.PrefixSums.{reading-next, run-reading}

-- ---- the window one hour later
pub window-moves : (xs : List ℕ) (j k : ℕ) → j + k < length xs → run_sum xs (j + 1) k + get_or xs j 0 ≡ run_sum xs j k + get_or xs (j + k) 0
window-moves xs j k l =
    let e : j + 1 + k ≡ j + k + 1 = omega arith in
    omega
    (arith, run-reading xs j k, run-reading xs (j + 1) k, reading-next xs j (omega arith), reading-next xs (j + k) l, ap (reading xs) e)

at_zero : (xs : List ℕ) (k i : ℕ) → i ≤ 0 → run_sum xs i k ≤ run_sum xs 0 k
at_zero xs k i l =
    let e : i ≡ 0 = omega arith in
    omega (arith, ap (λ (z : ℕ). run_sum xs z k) e)

pub best-first : (xs : List ℕ) (k : ℕ) → Best xs k 0 0 (run_sum xs 0 k)
best-first xs k = record { low = omega arith; total-is = refl; most = at_zero xs k; earliest = λ (i : ℕ) (l : i < 0). omega arith }

module _ (xs : List ℕ) (k j first total : ℕ) (b : Best xs k j first total) where
  -- the next run is no better, and the earlier one stays; or it is
  pub best_keeps : run_sum xs (j + 1) k ≤ total → Best xs k (j + 1) first total
  best_keeps l = record { low = omega (arith, b.low); total-is = b.total-is; most = λ i h. go i h (dec_le i j); earliest = b.earliest }
    where
      go : (i : ℕ) → i ≤ j + 1 → Dec (i ≤ j) → run_sum xs i k ≤ total
      go i h (yes m) = b.most i m
      go i h (no m) =
          let e : i ≡ j + 1 = omega arith in
          omega (arith, ap (λ (z : ℕ). run_sum xs z k) e)

  pub best-new : total < run_sum xs (j + 1) k → Best xs k (j + 1) (j + 1) (run_sum xs (j + 1) k)
  best-new l = record {
    low = omega arith;
    total-is = refl;
    most = λ i h. go i h (dec_le i j);
    earliest = λ (i : ℕ) (h : i < j + 1). omega (arith, b.most i (omega arith));
  }
    where
      go : (i : ℕ) → i ≤ j + 1 → Dec (i ≤ j) → run_sum xs i k ≤ run_sum xs (j + 1) k
      go i h (yes m) = omega (arith, b.most i m)
      go i h (no m) =
          let e : i ≡ j + 1 = omega arith in
          omega (arith, ap (λ (z : ℕ). run_sum xs z k) e)

  -- the last run was looked at
  pub best-all : j + k ≡ length xs → Busiest xs k first total
  best-all e = record {
    inside = omega (arith, b.low);
    total-is = b.total-is;
    most = λ (i : ℕ) (h : i + k ≤ length xs). b.most i (omega arith);
    earliest = λ (i : ℕ) (h : i < first). omega (arith, b.earliest i h);
  }

-- ---- there is one
abbrev SomeBest : List ℕ → ℕ → ℕ → Type 0
SomeBest xs k j = (first : ℕ) × (total : ℕ) × Best xs k j first total

next-best : (xs : List ℕ) (k j : ℕ) → SomeBest xs k j → SomeBest xs k (j + 1)
next-best xs k j w = go (dec_le (run_sum xs (j + 1) k) w.1)
  where
    go : Dec (run_sum xs (j + 1) k ≤ w.1) → SomeBest xs k (j + 1)
    go (yes l) = (w.0, w.1, best_keeps xs k j w.0 w.1 w.2 l)
    go (no l) = (j + 1, run_sum xs (j + 1) k, best-new xs k j w.0 w.1 w.2 (omega arith))

some-best : (xs : List ℕ) (k j : ℕ) → SomeBest xs k j
some-best xs k zero = (0, run_sum xs 0 k, best-first xs k)
some-best xs k (suc j) = subst (SomeBest xs k) (add-one j) (next-best xs k j (some-best xs k j))

pub some-busiest : (xs : List ℕ) (k : ℕ) → k ≤ length xs → (first : ℕ) × (total : ℕ) × Busiest xs k first total
some-busiest xs k l =
    let j : ℕ = length xs - k in
    let w : SomeBest xs k j = some-best xs k j in
    (w.0, w.1, best-all xs k j w.0 w.1 w.2 (omega arith))

-- ---- there is one alone
first-le : (xs : List ℕ) (k f g t u : ℕ) → Busiest xs k f t → Busiest xs k g u → f ≤ g
first-le xs k f g t u a b = go (dec_le f g)
  where
    go : Dec (f ≤ g) → f ≤ g
    go (yes l) = l
    go (no n) = omega (arith, a.earliest g (omega arith), b.total-is, b.most f a.inside, a.total-is)

pub one-busiest : (xs : List ℕ) (k f g t u : ℕ) → Busiest xs k f t → Busiest xs k g u → (f ≡ g) × (t ≡ u)
one-busiest xs k f g t u a b =
    let e : f ≡ g = omega (arith, first-le xs k f g t u a b, first-le xs k g f u t b a) in
    (e, a.total-is ∙ ap (λ (z : ℕ). run_sum xs z k) e ∙ sym b.total-is)
