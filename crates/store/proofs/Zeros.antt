-- Zeros in the code of free cells, and bytes that were all made 0. Assumes nothing.
use mathlib.Core.Path.{◌≡◌, sym, ap, ◌∙◌}
use mathlib.Core.List.{List, [], ◌∷◌, ◌++◌, append-nil}
use Prim.Native.Nat.{ℕ, ◌+◌, ◌-◌, ◌*◌, ◌≤◌}
use native.Mathlib.Omega.{arith}
use native.Mathlib.Decide.{ℕ_discrete}
use lib.ListN.{length, drop, replicate, length-drop}
use lib.Seq.{drop-length, take-append-le, drop-append-le}
use Rattle.lists.specs.Lists.{occurrences, part}
use Rattle.store.specs.Layout.{cell_at}
use Rattle.lists.proofs.Occurrences.{one-other, one_same}
use Rattle.lists.proofs.Zeros.{drop-zeros, take-zeros}
use Rattle.store.proofs.Filling.{Filled}

pub filled-split : (s : List ℕ) (base : ℕ) (xs ys u v : List ℕ) → length u ≡ 30 * length xs → Filled s base (xs ++ ys) (u ++ v)
    → Filled s base xs u × Filled s base ys v
filled-split s base [] ys [] v e h = (tt, h)
filled-split s base [] ys (x ∷ u) v e h = absurd (omega (arith, e))
filled-split s base (x ∷ xs) ys u v e h =
    let w = filled-split s base xs ys (drop 30 u) v (omega (arith, length-drop 30 u)) (rw (drop-append-le 30 u v (omega arith)) at h.1) in
    ((h.0 ∙ take-append-le 30 u v (omega arith), w.0), w.1)

abbrev pub Zeroed : List ℕ → ℕ → List ℕ → Type 0
Zeroed s base cs = (d : ℕ) → 1 ≤ occurrences d cs → part s (cell_at base d + 2) 30 ≡ replicate 30 0

pub zeroed : (s : List ℕ) (base : ℕ) (cs : List ℕ) (n : ℕ) → 30 * length cs ≤ n → Filled s base cs (replicate n 0) → Zeroed s base cs
unfolding occurrences
zeroed s base [] n l h d q = absurd (omega arith)
zeroed s base (c ∷ cs) n l h d q = go (ℕ_discrete d c)
    (λ r. zeroed s base cs (n - 30) (omega arith) (rw (drop-zeros n 30) at h.1) d r)
  where
    go : Dec (d ≡ c) → (1 ≤ occurrences d cs → part s (cell_at base d + 2) 30 ≡ replicate 30 0) → part s (cell_at base d + 2) 30 ≡ replicate 30 0
    go (yes e) r = rw e (h.0 ∙ take-zeros n 30 (omega arith))
    go (no e) r = r (omega (arith, one-other d c e))

pub zeros-filled : (s : List ℕ) (base : ℕ) (cs : List ℕ) (n : ℕ) → 30 * length cs ≤ n → Zeroed s base cs → Filled s base cs (replicate n 0)
unfolding occurrences
zeros-filled s base [] n l h = tt
zeros-filled s base (c ∷ cs) n l h = (
  h c (omega (arith, one_same c))
      ∙ sym (take-zeros n 30 (omega arith)),
  rw (drop-zeros n 30) (zeros-filled s base cs (n - 30) (omega arith) (λ d q. h d (omega arith))),
)

-- a list whose elements were all made 0
pub cleared : (s t : List ℕ) (i : ℕ) → i ≡ length s → t ≡ replicate i 0 ++ drop i s → t ≡ replicate (length s) 0
cleared s t i e h = h ∙ ap (λ (z : ℕ). replicate z 0 ++ drop z s) e ∙ rw (drop-length s, append-nil)
