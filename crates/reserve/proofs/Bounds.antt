-- What the functions' proofs use, on plain numbers: the binary digits by the leading zeros, both cases of the reserve as one formula, and
-- the bounds of that formula's parts.
-- Assumes nothing.
use mathlib.Core.Path.{◌≡◌, sym, ap, ◌∙◌}
use Prim.Native.Nat.{ℕ, zero, suc, ◌+◌, ◌-◌, ◌*◌, ◌/◌, ◌%◌, ◌^◌, ◌≤◌, ◌<◌, min}
use native.Mathlib.Nat.{mul-le-mul, mul-le-mul_left, mul-le-mul_right}
use native.Mathlib.Nat.{div-mul-le_self, lt-div-mul-add, div-eq_of_lt-le, pow-succ'}
use native.Mathlib.Decide.{dec_le}
use native.Mathlib.Omega.{arith}
use lib.Count.{count_leading_zeros, leading_length}
use lib.Pow.{pow_mono, pow_pos}
use Rattle.reserve.specs.Reserve.{digits, ceil, dense, sparse, reserve}
use Rattle.reserve.specs.Code.Formula.{one_formula, Bounded}
use Rattle.reserve.proofs.Line.{lt-two-pow}
use Rattle.reserve.proofs.Exact.{digits-ge, digits_le, digits-unique, reserve-dense, reserve-sparse, round-le, suc-sub-one}

pub digits-by-zeros : (s : ℕ) → s < 2 ^ 64 → 64 - count_leading_zeros 64 s ≡ digits s
digits-by-zeros s h =
    let l = leading_length 64 s h in
    omega (arith, digits-unique s l.0 l.2 l.3, l.1)

-- ---- both cases as one formula
-- floor (s·(2u - 1) / u) is 2s - ceil (s / u)
floor-ceil : (s u : ℕ) → 1 ≤ u → s * (2 * u - 1) / u + ceil s u ≡ 2 * s
unfolding ceil
floor-ceil s u p =
    let c : ℕ = (s + (u - 1)) / u in
    let lo : c * u < s + u = omega (arith, div-mul-le_self (s + (u - 1)) u) in
    let hi : s + (u - 1) < c * u + u = lt-div-mul-add p in
    let le : c ≤ s = round-le c s u p lo in
    let x : s * (2 * u - 1) + s ≡ 2 * s * u = scale s u p in
    let q : s * (2 * u - 1) / u ≡ 2 * s - c =
    div-eq_of_lt-le {k = 2 * s - c} u (under s c u (s * (2 * u - 1)) le x (omega arith)) (over s c u (s * (2 * u - 1)) le x lo) in
    omega (arith, q)
  where
    scale : (s u : ℕ) → 1 ≤ u → s * (2 * u - 1) + s ≡ 2 * s * u
    scale s (suc v) p = let e : 2 * suc v - 1 ≡ 2 * v + 1 = omega arith in rw e (omega arith)
    scale s zero p = omega arith

    under : (s c u x : ℕ) → c ≤ s → x + s ≡ 2 * s * u → s ≤ c * u → (2 * s - c) * u ≤ x
    under s c u x l e h =
        let d : ℕ = 2 * s - c in
        let w : 2 * s ≡ d + c = omega arith in
        omega (arith, ap (λ (y : ℕ). y * u) w)

    over : (s c u x : ℕ) → c ≤ s → x + s ≡ 2 * s * u → c * u < s + u → x < (2 * s - c + 1) * u
    over s c u x l e h =
        let d : ℕ = 2 * s - c in
        let w : 2 * s ≡ d + c = omega arith in
        omega (arith, ap (λ (y : ℕ). y * u) w)

sparse-one : (h k s : ℕ) → suc k ≤ h → sparse h (suc k) s ≡ one_formula h (suc k) s (suc k) (2 ^ suc k) k
unfolding sparse
sparse-one h k s l =
    let e : 2 ^ suc k ≡ 2 * 2 ^ k = pow-succ' 2 k in
    let f : s * (2 ^ suc k - 1) / 2 ^ k + ceil s (2 ^ k) ≡ 2 * s = ap (λ (z : ℕ). s * (z - 1) / 2 ^ k + ceil s (2 ^ k)) e ∙ floor-ceil s (2 ^ k) (pow_pos k) in
    let one : suc k + 1 - suc k ≡ 1 = omega arith in
    rw (suc-sub-one k, one) (omega (arith, f))

dense-one : (h k s : ℕ) → h ≤ suc k → dense h (suc k) s ≡ one_formula h (suc k) s h (2 ^ h) k
unfolding dense
dense-one h k s l =
    let z : s * (h - h) ≡ 0 = let e : h - h ≡ 0 = omega arith in rw e (omega arith) in
    rw suc-sub-one (omega (arith, z))

-- at the segment of s's own digits
one_at : (h k s : ℕ) → 1 ≤ s → digits s ≡ suc k → Dec (2 ^ h ≤ 2 * s) → reserve h s ≡ one_formula h (suc k) s (min h (suc k)) (2 ^ min h (suc k)) k
one_at h k s p e (yes q) =
    let l : h ≤ suc k = omega (arith, digits-ge s h (omega arith)) in
    let m : h ≡ min h (suc k) = omega arith in
    reserve-dense h s p q ∙ ap (λ (z : ℕ). dense h z s) e ∙ dense-one h k s l ∙ ap (λ (z : ℕ). one_formula h (suc k) s z (2 ^ z) k) m
one_at h k s p e (no q) =
    let l : suc k ≤ h = omega (arith, digits_le s h (omega arith)) in
    let m : suc k ≡ min h (suc k) = omega arith in
    reserve-sparse h s p (omega arith) ∙ ap (λ (z : ℕ). sparse h z s) e ∙ sparse-one h k s l ∙ ap (λ (z : ℕ). one_formula h (suc k) s z (2 ^ z) k) m

none-at : (h r s : ℕ) → 0 ≡ digits s → r ≡ one_formula h 0 s (min h 0) (2 ^ min h 0) ((0 + 63) % 64) → r ≡ reserve h s
unfolding reserve
none-at h r zero e q =
    let z : min h 0 ≡ 0 = omega arith in
    q ∙ ap (λ (m : ℕ). one_formula h 0 0 m (2 ^ m) ((0 + 63) % 64)) z ∙ omega arith
none-at h r (suc s) e q = absurd (omega (arith, digits-ge (suc s) 1 (omega arith)))

positive : (k s : ℕ) → suc k ≡ digits s → 1 ≤ s
unfolding digits
positive k zero e = absurd (omega (arith, e))
positive k (suc s) e = omega arith

formula-at : (h r t s : ℕ) → t ≤ 40 → t ≡ digits s → r ≡ one_formula h t s (min h t) (2 ^ min h t) ((t + 63) % 64) → r ≡ reserve h s
formula-at h r zero s l e q = none-at h r s e q
formula-at h r (suc k) s l e q =
    let a : (suc k + 63) % 64 ≡ k = omega arith in
    q ∙ ap (one_formula h (suc k) s (min h (suc k)) (2 ^ min h (suc k))) a ∙ sym (one_at h k s (positive k s e) (sym e) (dec_le (2 ^ h) (2 * s)))

pub one-formula : (h t s m n r : ℕ) → s < 1099511627776 → t ≡ digits s → m ≡ min h t → n ≡ 2 ^ m → r ≡ one_formula h t s m n ((t + 63) % 64) → r ≡ reserve h s
one-formula h t s m n r small et em en er =
    formula-at h r t s (omega (arith, digits_le s 40 small)) et
    (er ∙ ap (λ (z : ℕ). one_formula h t s m z ((t + 63) % 64)) en ∙ ap (λ (z : ℕ). one_formula h t s z (2 ^ z) ((t + 63) % 64)) em)

-- ---- the bounds of its parts
enough-alg : (m e n : ℕ) → m + 1 ≤ n → 1 ≤ e → m + e ≤ n * e
enough-alg m e n p q = omega (arith, mul-le-mul_right e p, mul-le-mul_left m q)

pub bounded : (h t s m n : ℕ) → h ≤ 8 → s < 1099511627776 → t ≡ digits s → m ≡ min h t → n ≡ 2 ^ m → Bounded h t s m n
bounded h t s m n a b e i j =
    let small : n ≤ 256 = omega (arith, pow_mono {i = m} {j = 8} (omega arith)) in
    let few : t ≤ 40 = omega (arith, digits_le s 40 b) in
    record {
      few = few;
      low-h = omega arith;
      low-t = omega arith;
      pos = omega (arith, pow_pos m);
      levels = mul-le-mul {n₂ = 256} {m₂ = 41} small (omega arith);
      above = mul-le-mul {n₂ = 1099511627776} {m₂ = 8} (omega arith) (omega arith);
      shared = mul-le-mul {n₂ = 1099511627776} {m₂ = 256} (omega arith) (omega arith);
      enough = omega (arith, enough-alg m (t + 1 - m) n (omega (arith, lt-two-pow m)) (omega arith));
    }
