-- The reserve of s is what the line of s's own number of digits says, rounded down.
-- Assumes nothing.
use mathlib.Core.Path.{◌≡◌, refl, sym, ap, ap₂, ◌∙◌}
use mathlib.Core.Bool.{Bool, true, false}
use Prim.Native.Nat.{ℕ, zero, suc, ◌+◌, ◌-◌, ◌*◌, ◌/◌, ◌^◌, ◌≤◌, ◌<◌, max}
use native.Mathlib.Nat.{pow-succ', mul-le-mul_left, mul-le-mul_right}
use native.Mathlib.Nat.{le_refl, div-mul-le_self, lt-div-mul-add}
use native.Mathlib.Decide.{dec_le}
use native.Mathlib.Omega.{arith}
use lib.Arith.{half_le}
use lib.Dec.{leb}
use lib.Pow.{pow_mono, pow_pos}
use borrow.Author.Tests.{le-leb, leb-false, leb-true, lt-leb}
use Rattle.lists.specs.Lists.{pick}
use Rattle.reserve.specs.Reserve.{digits_within, digits, ceil, dense, sparse, reserve}
use Rattle.reserve.proofs.Line.{line, Under, A-zero, A-dense, B-dense, A-sparse, B-sparse, lt-two-pow}

pub suc-sub-one : (k : ℕ) → suc k - 1 ≡ k
suc-sub-one k = omega arith

-- ---- the number of digits
digits_within-is : (k n : ℕ) → n ≤ k → (n < 2 ^ digits_within k n) × (2 ^ digits_within k n ≤ max 1 (2 * n))
unfolding digits_within
digits_within-is zero zero h = omega arith
digits_within-is zero (suc n) h = omega arith
digits_within-is (suc k) zero h = omega arith
digits_within-is (suc k) (suc n) h =
    let ih = digits_within-is k (suc n / 2) (half_le h) in
    omega (arith, pow-succ' 2 (digits_within k (suc n / 2)), ih)

pub digits-is : (n : ℕ) → (n < 2 ^ digits n) × (2 ^ digits n ≤ 2 * n + 1)
unfolding digits
digits-is n = omega (arith, digits_within-is n n (le_refl n))

-- a number has one length
pub digits_le : (n t : ℕ) → n < 2 ^ t → digits n ≤ t
digits_le n t h = go (dec_le (digits n) t)
  where
    go : Dec (digits n ≤ t) → digits n ≤ t
    go (yes l) = l
    go (no g) =
        let m : 2 ^ suc t ≤ 2 ^ digits n = pow_mono (omega arith) in
        omega (arith, digits-is n, pow-succ' 2 t)

pub digits-ge : (n t : ℕ) → 2 ^ t ≤ 2 * n + 1 → t ≤ digits n
digits-ge n t h = go (dec_le t (digits n))
  where
    go : Dec (t ≤ digits n) → t ≤ digits n
    go (yes l) = l
    go (no g) =
        let m : 2 ^ suc (digits n) ≤ 2 ^ t = pow_mono (omega arith) in
        omega (arith, digits-is n, pow-succ' 2 (digits n))

pub digits-unique : (n t : ℕ) → n < 2 ^ t → 2 ^ t ≤ 2 * n + 1 → digits n ≡ t
digits-unique n t h l = omega (arith, digits_le n t h, digits-ge n t l)

-- ---- r is what the line says, rounded down
abbrev pub Just : ℕ → ℕ → ℕ → ℕ → Type 0
Just h t x r = (Under h t x r) × (line h t x < 2 ^ t * (r + t + 2) + 2 * x)

-- where r is the dense formula, or the sparse one, with its quotient q or c given by what a quotient is
dense-just : (h k s e n q r : ℕ) → suc k ≡ h + e → 2 ^ h ≡ suc n → q * 2 ^ k ≤ s * n → s * n < q * 2 ^ k + 2 ^ k
    → r + suc k + 1 ≡ suc n * (e + 1) + q → Just h (suc k) s r
dense-just h k s e n q r i j a b w =
    rw (A-dense h (suc k) e i, B-dense h (suc k) (omega arith), pow-succ' 2 k, j)
    (omega (arith, ap (λ (y : ℕ). 2 ^ k * y) w))

sparse-just : (h k s d c r : ℕ) → h ≡ suc k + d → s ≤ c * 2 ^ k → c * 2 ^ k < s + 2 ^ k
    → r + suc k + 1 + c ≡ 2 * 2 ^ k + 2 * s + s * d → Just h (suc k) s r
sparse-just h k s d c r i a b w =
    rw (A-sparse h (suc k) (omega arith), B-sparse h (suc k) d i, pow-succ' 2 k)
    (omega (arith, ap (λ (y : ℕ). 2 ^ k * y) w))

-- the formulas' sums are at least what they subtract, so that nothing is cut off
dense-sum : (h t e n q : ℕ) → t ≡ h + e → 2 ^ h ≡ suc n → t + 1 ≤ suc n * (e + 1) + q
dense-sum h t e n q i j =
    let g : h + 1 ≤ suc n = rw j at (lt-two-pow h) in
    omega (arith, mul-le-mul_right (e + 1) g)

pub round-le : (c s u : ℕ) → 1 ≤ u → c * u < s + u → c ≤ s
round-le c s u p b = go (dec_le c s)
  where
    go : Dec (c ≤ s) → c ≤ s
    go (yes l) = l
    go (no g) =
        let m : suc s * u ≤ c * u = mul-le-mul_right u (omega arith) in
        omega (arith, mul-le-mul_left s p)

sparse-sum : (k s d c : ℕ) → c * 2 ^ k < s + 2 ^ k → c + suc k + 1 ≤ 2 * 2 ^ k + 2 * s + s * d
sparse-sum k s d c b = omega (arith, lt-two-pow k, round-le c s (2 ^ k) (pow_pos k) b)

-- the formulas at a number of digits that is no 0
dense-suc : (h k s : ℕ) → dense h (suc k) s ≡ 2 ^ h * (suc k + 1 - h) + s * (2 ^ h - 1) / 2 ^ k - (suc k + 1)
unfolding dense
dense-suc h k s =
    ap (λ (y : ℕ). 2 ^ h * (suc k + 1 - h) + s * (2 ^ h - 1) / 2 ^ y - (suc k + 1)) (suc-sub-one k)

dense-is : (h k s e : ℕ) → suc k ≡ h + e → Just h (suc k) s (dense h (suc k) s)
dense-is h k s e i =
    let j : 2 ^ h ≡ suc (2 ^ h - 1) = omega (arith, pow_pos h) in
    let m : 2 ^ h * (suc k + 1 - h) ≡ suc (2 ^ h - 1) * (e + 1) = ap₂ (λ (x y : ℕ). x * y) j (omega arith) in
    rw dense-suc
    (dense-just h k s e (2 ^ h - 1) (s * (2 ^ h - 1) / 2 ^ k) _ i j (div-mul-le_self _ _) (lt-div-mul-add (pow_pos k))
    (omega (arith, m, dense-sum h (suc k) e (2 ^ h - 1) (s * (2 ^ h - 1) / 2 ^ k) i j)))

sparse-suc : (h k s : ℕ)
    → sparse h (suc k) s ≡ 2 * 2 ^ k + 2 * s + s * (h - suc k) - ((s + (2 ^ k - 1)) / 2 ^ k + suc k + 1)
unfolding sparse ceil
sparse-suc h k s =
    ap₂ (λ (p y : ℕ). p + 2 * s + s * (h - suc k) - ((s + (2 ^ y - 1)) / 2 ^ y + suc k + 1)) (pow-succ' 2 k) (suc-sub-one k)

sparse-is : (h k s d : ℕ) → h ≡ suc k + d → Just h (suc k) s (sparse h (suc k) s)
sparse-is h k s d i =
    let c : ℕ = (s + (2 ^ k - 1)) / 2 ^ k in
    let lo : c * 2 ^ k < s + 2 ^ k = omega (arith, div-mul-le_self (s + (2 ^ k - 1)) (2 ^ k), pow_pos k) in
    let hi : s + (2 ^ k - 1) < c * 2 ^ k + 2 ^ k = lt-div-mul-add (pow_pos k) in
    let m : s * (h - suc k) ≡ s * d = ap (λ (y : ℕ). s * y) (omega arith) in
    rw sparse-suc (sparse-just h k s d c _ i (omega arith) lo (omega (arith, m, sparse-sum k s d c lo)))

-- either formula, where a test picks the dense one just where 2 ^ h ≤ 2 * s
picked : (h k s : ℕ) → digits s ≡ suc k → (b : Bool) → leb (2 ^ h) (2 * s) ≡ b
    → Just h (suc k) s (pick b (dense h (suc k) s) (sparse h (suc k) s))
unfolding pick
picked h k s e true q =
    dense-is h k s (suc k - h) (omega (arith, digits-ge s h (omega (arith, leb-true (2 ^ h) (2 * s) q))))
picked h k s e false q =
    sparse-is h k s (h - suc k) (omega (arith, digits_le s h (omega (arith, leb-false (2 ^ h) (2 * s) q))))

-- the reserve
pub reserve-is : (h s : ℕ) → Just h (digits s) s (reserve h s)
unfolding reserve
reserve-is h zero = omega (arith, A-zero h)
reserve-is h (suc j) = picked h (digits_within j (suc j / 2)) (suc j) refl (leb (2 ^ h) (2 * suc j)) refl

-- ---- the formula's two cases, with what they subtract on the other side: no difference of natural numbers is cut off
pub reserve-dense : (h s : ℕ) → 1 ≤ s → 2 ^ h ≤ 2 * s → reserve h s ≡ dense h (digits s) s
unfolding reserve
reserve-dense h zero p q = omega arith
reserve-dense h (suc j) p q = rw (le-leb (2 ^ h) (2 * suc j) q)

pub reserve-sparse : (h s : ℕ) → 1 ≤ s → 2 * s < 2 ^ h → reserve h s ≡ sparse h (digits s) s
unfolding reserve
reserve-sparse h zero p q = omega arith
reserve-sparse h (suc j) p q = rw (lt-leb (2 ^ h) (2 * suc j) q)

dense-whole : (h k s : ℕ) → h ≤ suc k → dense h (suc k) s + (suc k + 1) ≡ 2 ^ h * (suc k + 1 - h) + s * (2 ^ h - 1) / 2 ^ k
dense-whole h k s l =
    let j : 2 ^ h ≡ suc (2 ^ h - 1) = omega (arith, pow_pos h) in
    let q : ℕ = s * (2 ^ h - 1) / 2 ^ k in
    let m : 2 ^ h * (suc k + 1 - h) ≡ suc (2 ^ h - 1) * (suc k - h + 1) = ap₂ (λ (x y : ℕ). x * y) j (omega arith) in
    rw dense-suc (omega (arith, m, dense-sum h (suc k) (suc k - h) (2 ^ h - 1) q (omega arith) j))

sparse-whole : (h k s : ℕ) → suc k ≤ h → sparse h (suc k) s + (ceil s (2 ^ k) + suc k + 1) ≡ 2 ^ suc k + 2 * s + s * (h - suc k)
unfolding ceil
sparse-whole h k s l =
    let c : ℕ = (s + (2 ^ k - 1)) / 2 ^ k in
    let lo : c * 2 ^ k < s + 2 ^ k = omega (arith, div-mul-le_self (s + (2 ^ k - 1)) (2 ^ k), pow_pos k) in
    rw (sparse-suc, pow-succ' 2 k) (omega (arith, sparse-sum k s (h - suc k) c lo))

-- 'n·(t - h + 1) + floor(s·(n-1) / 2^(t-1)) - t - 1 if 2s ≥ n', t being the binary digits of s
pub dense-exact : (h s : ℕ) → 1 ≤ s → 2 ^ h ≤ 2 * s
    → (h ≤ digits s) × (reserve h s + (digits s + 1) ≡ 2 ^ h * (digits s + 1 - h) + s * (2 ^ h - 1) / 2 ^ (digits s - 1))
dense-exact h s p q = go (digits s) (digits-is s) (digits-ge s h (omega arith)) (reserve-dense h s p q)
  where
    go : (t : ℕ) → (s < 2 ^ t) × (2 ^ t ≤ 2 * s + 1) → h ≤ t → reserve h s ≡ dense h t s
        → (h ≤ t) × (reserve h s + (t + 1) ≡ 2 ^ h * (t + 1 - h) + s * (2 ^ h - 1) / 2 ^ (t - 1))
    go zero d l e = absurd (omega arith)
    go (suc k) d l e = (
      l,
      ap (λ (r : ℕ). r + (suc k + 1)) e ∙ dense-whole h k s l
          ∙ ap (λ (y : ℕ). 2 ^ h * (suc k + 1 - h) + s * (2 ^ h - 1) / 2 ^ y) (sym (suc-sub-one k)),
    )

-- '2^t + 2s - ceil(s / 2^(t-1)) - t - 1 + s·(h - t) otherwise'
pub sparse-exact : (h s : ℕ) → 1 ≤ s → 2 * s < 2 ^ h
    → (digits s ≤ h) × (reserve h s + (ceil s (2 ^ (digits s - 1)) + digits s + 1) ≡ 2 ^ digits s + 2 * s + s * (h - digits s))
sparse-exact h s p q = go (digits s) (digits-is s) (digits_le s h (omega arith)) (reserve-sparse h s p q)
  where
    go : (t : ℕ) → (s < 2 ^ t) × (2 ^ t ≤ 2 * s + 1) → t ≤ h → reserve h s ≡ sparse h t s
        → (t ≤ h) × (reserve h s + (ceil s (2 ^ (t - 1)) + t + 1) ≡ 2 ^ t + 2 * s + s * (h - t))
    go zero d l e = absurd (omega arith)
    go (suc k) d l e = (
      l,
      ap (λ (r : ℕ). r + (ceil s (2 ^ (suc k - 1)) + suc k + 1)) e
          ∙ ap (λ (y : ℕ). sparse h (suc k) s + (ceil s (2 ^ y) + suc k + 1)) (suc-sub-one k) ∙ sparse-whole h k s l,
    )
