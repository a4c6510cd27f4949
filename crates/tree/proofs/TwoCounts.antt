-- The tree of two counts owns its field's bits alone. Assumes nothing.
use mathlib.Core.Path.{◌≡◌, refl}
use Prim.Native.Nat.{ℕ, zero, suc, ◌+◌, ◌*◌, ◌^◌, ◌≤◌, ◌<◌}
use native.Mathlib.Nat.{pow-succ', lt_of_mul-lt-mul_left}
use native.Mathlib.Omega.{arith}
use Rattle.reserve.specs.Reserve.{digits, reserve}
use Rattle.reserve.proofs.Line.{A, B}
use Rattle.reserve.proofs.Exact.{digits-is}
use Rattle.reserve.proofs.Fit.{bound, fit_all}

pair-alg : (p k r s : ℕ) → 2 * p * (r + suc k + 1) + 2 * s ≤ 4 * (p * (k + 1)) + 2 * 2 * s → s < 2 * p → r ≤ suc k
pair-alg p k r s u l =
    let g : r + k + 2 < 2 * k + 4 = lt_of_mul-lt-mul_left p (omega arith) in
    omega arith

pair-most : (s t : ℕ) → t ≡ digits s → s < 2 ^ t → 2 ^ t * (reserve 1 s + t + 1) + 2 * s ≤ A 1 t + B 1 t * s → reserve 1 s ≤ t
unfolding A B reserve
pair-most zero zero e l u = omega arith
pair-most (suc s) zero e l u = absurd (omega arith)
pair-most s (suc k) e l u = pair-alg (2 ^ k) k (reserve 1 s) s (rw pow-succ' at u) (omega (arith, pow-succ' 2 k))

pub reserve-pair : (s : ℕ) → reserve 1 s ≡ digits s
reserve-pair s =
    let low : digits s ≤ reserve 1 s = omega (arith, fit_all 0 s 0 s (omega arith)) in
    omega (arith, pair-most s (digits s) refl (digits-is s).0 (bound 1 s (digits s)))
