-- Zeros written one piece after another. Assumes nothing.
use mathlib.Core.Path.{◌≡◌, refl, ap, ◌∙◌}
use mathlib.Core.List.{List, [], ◌∷◌, ◌++◌}
use Prim.Native.Nat.{ℕ, zero, suc, ◌+◌, ◌*◌, ◌≤◌}
use native.Mathlib.Omega.{arith}
use lib.ListN.{length, replicate, length-replicate, replicate-append-replicate}
use borrow.Rule.Slice.PartMut.{put_mid}
use Rattle.lists.specs.Lists.{splice}
use Rattle.lists.proofs.Parts.{put_mid-splice, splice-nil, splice-then}
use Rattle.bits.specs.Bits.{bits, field}
use Rattle.bits.proofs.Laws.{length-bits}
use Rattle.bits.proofs.Packing.{zeros-bits}
use Rattle.bits.proofs.Bytes.{bits-splice}

pub field-zero : (n : ℕ) → field n 0 ≡ replicate n 0
unfolding field
field-zero zero = refl
field-zero (suc n) =
    ap (λ (z : List ℕ). z ++ (0 ∷ [])) (field-zero n) ∙ replicate-append-replicate n 1 0
    ∙ ap (λ (z : ℕ). replicate z 0) {x = n + 1} {y = suc n} (omega arith)

-- n zeros, and k behind them, from bit b on
pub cleared_more : (o m r : List ℕ) (at b n k : ℕ) → b ≡ at + n → at + n + k ≤ 8 * length o → bits m ≡ splice (bits o) at (replicate n 0)
    → bits r ≡ splice (bits m) b (replicate k 0) → bits r ≡ splice (bits o) at (replicate (n + k) 0)
cleared_more o m r at b n k eb h em er =
    let ln = length-replicate {A = ℕ} n 0 in
    let lk = length-replicate {A = ℕ} k 0 in
    splice-then (bits o) (bits m) (bits r) (replicate n 0) (replicate k 0) at b em er (omega (arith, ln)) (omega (arith, ln, lk, length-bits o))
    ∙ ap (splice (bits o) at) (replicate-append-replicate n k 0)

-- whole bytes made 0
pub bytes_filled : (s m : List ℕ) (i k j : ℕ) → m ≡ replicate k 0 → j ≡ k → bits (put_mid i j s m) ≡ splice (bits s) (8 * i) (replicate (8 * k) 0)
bytes_filled s m i k j em ej =
    ap bits (put_mid-splice i j s m (replicate k 0) em (omega (arith, length-replicate {A = ℕ} k 0)))
    ∙ bits-splice s i (replicate k 0) ∙ ap (splice (bits s) (8 * i)) (zeros-bits k)

-- whole bytes behind n zeros; where there are none, it does not matter where they would start
pub cleared-bytes : (o m r : List ℕ) (at i n k : ℕ) → (1 ≤ k → 8 * i ≡ at + n) → at + n + 8 * k ≤ 8 * length o
    → bits m ≡ splice (bits o) at (replicate n 0) → bits r ≡ splice (bits m) (8 * i) (replicate (8 * k) 0)
    → bits r ≡ splice (bits o) at (replicate (n + 8 * k) 0)
cleared-bytes o m r at i n zero p h em er =
    er ∙ splice-nil (bits m) (8 * i) ∙ em ∙ ap (λ (z : ℕ). splice (bits o) at (replicate z 0)) {x = n} {y = n + 8 * 0} (omega arith)
cleared-bytes o m r at i n (suc k) p h em er = cleared_more o m r at (8 * i) n (8 * suc k) (p (omega arith)) h em er
