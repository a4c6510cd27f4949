-- Zeros, and lists filled up with them. Assumes nothing.
use mathlib.Core.Path.{◌≡◌, refl, sym, ap, ◌∙◌}
use mathlib.Core.List.{List, ◌∷◌, ◌++◌, append_assoc}
use Prim.Native.Nat.{ℕ, zero, suc, ◌+◌, ◌-◌, ◌≤◌}
use native.Mathlib.Nat.{not-suc-le-zero, le_of_suc-le-suc}
use native.Mathlib.Omega.{arith}
use lib.ListN.{length, get_or, take, drop, replicate, replicate-append-replicate}
use Rattle.lists.specs.Lists.{fill, part, splice}

pub zeros-same : {m n : ℕ} → m ≡ n → replicate {A = ℕ} m 0 ≡ replicate n 0
zeros-same e = ap (λ (k : ℕ). replicate k 0) e

pub zeros-split : (n k m : ℕ) → n ≡ k + m → replicate {A = ℕ} n 0 ≡ replicate k 0 ++ replicate m 0
zeros-split n k m e = zeros-same e ∙ sym (replicate-append-replicate k m 0)

pub zeros-at : (n i : ℕ) → get_or (replicate {A = ℕ} n 0) i 0 ≡ 0
zeros-at zero i = refl
zeros-at (suc n) zero = refl
zeros-at (suc n) (suc i) = zeros-at n i

pub take-zeros : (n k : ℕ) → k ≤ n → take k (replicate {A = ℕ} n 0) ≡ replicate k 0
take-zeros n zero l = refl
take-zeros zero (suc k) l = absurd (not-suc-le-zero l)
take-zeros (suc n) (suc k) l = ap (λ (z : List ℕ). 0 ∷ z) (take-zeros n k (le_of_suc-le-suc l))

pub drop-zeros : (n k : ℕ) → drop k (replicate {A = ℕ} n 0) ≡ replicate (n - k) 0
drop-zeros n zero = zeros-same {m = n} {n = n - 0} (omega arith)
drop-zeros zero (suc k) = zeros-same {m = 0} {n = 0 - suc k} (omega arith)
drop-zeros (suc n) (suc k) = drop-zeros n k ∙ zeros-same {m = n - k} {n = suc n - suc k} (omega arith)

pub part-zeros : (n a k : ℕ) → a + k ≤ n → part (replicate n 0) a k ≡ replicate k 0
part-zeros n a k l = ap (take k) (drop-zeros n a) ∙ take-zeros (n - a) k (omega arith)

-- a list put at the front of zeros is filled up with zeros
pub splice-zeros : (n : ℕ) (t : List ℕ) → splice (replicate n 0) 0 t ≡ fill n t
unfolding splice fill
splice-zeros n t =
    let e : n - (0 + length t) ≡ n - length t = omega arith in
    ap (λ (z : List ℕ). t ++ z) (drop-zeros n (0 + length t) ∙ zeros-same e)

-- filled up in two steps
pub fill_more : (m n : ℕ) (t : List ℕ) → length t ≤ m → m ≤ n → fill n t ≡ fill m t ++ replicate (n - m) 0
unfolding fill
fill_more m n t h k =
    ap (λ (z : List ℕ). t ++ z) (zeros-split (n - length t) (m - length t) (n - m) (omega arith))
    ∙ sym (append_assoc t (replicate (m - length t) 0) (replicate (n - m) 0))
