-- Laws of a word that is shifted up, so that bits stand at its high end. Assumes nothing.
use mathlib.Core.Path.{◌≡◌, sym, ap, ◌∙◌}
use mathlib.Core.List.{List}
use Prim.Native.Nat.{ℕ, zero, suc, ◌+◌, ◌-◌, ◌*◌, ◌/◌, ◌%◌, ◌^◌, ◌≤◌, ◌<◌, min}
use native.Mathlib.Nat.{mod-eq_of_lt, mod-mod, mul-mod_left, add-zero}
use native.Mathlib.Omega.{arith}
use lib.ListN.{length, take, drop}
use lib.Pow.{mod-pow-add, shl-shr, shr-shr, mod-mod-pow}
use lib.Pow.{field as middle}
use Rattle.lists.specs.Lists.{part}
use Rattle.bits.specs.Bits.{field, value, value_from, bits}
use Rattle.bits_field.specs.Code.Front.{Front}
use Rattle.bits.proofs.Laws.{length-bits}
use Rattle.bits.proofs.Packing.{field-piece}
use Rattle.bits.proofs.Words.{get-is}

-- of a word shifted up by k its low digits are left
low_up : (w k m : ℕ) → (w * 2 ^ k) % 2 ^ (m + k) ≡ (w % 2 ^ m) * 2 ^ k
low_up w k m =
    mod-pow-add (w * 2 ^ k) m k
    ∙ ap (λ (x : ℕ). (x % 2 ^ m) * 2 ^ k + (w * 2 ^ k) % 2 ^ k) (shl-shr w k)
    ∙ ap (λ (x : ℕ). (w % 2 ^ m) * 2 ^ k + x) (mul-mod_left w (2 ^ k))
    ∙ add-zero ((w % 2 ^ m) * 2 ^ k)

-- the n digits behind the k high ones, where q are below them
behind : (w k n q : ℕ) → n + q + k ≡ 64 → (w * 2 ^ k) % 2 ^ 64 / 2 ^ (k + q) ≡ w / 2 ^ q % 2 ^ n
behind w k n q e =
    ap (λ (x : ℕ). (w * 2 ^ k) % 2 ^ x / 2 ^ (k + q)) (sym e)
    ∙ ap (λ (x : ℕ). x / 2 ^ (k + q)) (low_up w k (n + q))
    ∙ sym (shr-shr ((w % 2 ^ (n + q)) * 2 ^ k) k q)
    ∙ ap (λ (x : ℕ). x / 2 ^ q) (shl-shr (w % 2 ^ (n + q)) k)
    ∙ middle w n q

pub part-is : (w k n : ℕ) → k + n ≤ 64 → n < 64 → (w * 2 ^ k) % 2 ^ 64 / 2 ^ 1 / 2 ^ (63 - n) ≡ w / 2 ^ (64 - (k + n)) % 2 ^ n
part-is w k n l i =
    let q : ℕ = 64 - (k + n) in
    let e : 1 + (63 - n) ≡ k + q = omega arith in
    shr-shr ((w * 2 ^ k) % 2 ^ 64) 1 (63 - n)
    ∙ ap (λ (x : ℕ). (w * 2 ^ k) % 2 ^ 64 / 2 ^ x) e
    ∙ behind w k n q (omega arith)

-- the first n bits of a word shifted up are those behind its k high ones
pub up-part : (w k n : ℕ) → k + n ≤ 64 → part (field 64 ((w * 2 ^ k) % 2 ^ 64)) 0 n ≡ part (field 64 w) k n
up-part w k n l =
    let q : ℕ = 64 - (k + n) in
    let e : 64 - (0 + n) ≡ k + q = omega arith in
    field-piece 64 ((w * 2 ^ k) % 2 ^ 64) 0 n (omega arith)
    ∙ ap (λ (x : ℕ). field n ((w * 2 ^ k) % 2 ^ 64 / 2 ^ x % 2 ^ n)) e
    ∙ ap (λ (x : ℕ). field n (x % 2 ^ n)) (behind w k n q (omega arith))
    ∙ ap (field n) (mod-mod (w / 2 ^ q) (2 ^ n))
    ∙ sym (field-piece 64 w k n l)

-- nothing is 0 either way
none : (x : ℕ) → 0 ≡ x % 2 ^ 0
none x = omega arith

-- where the shift down ends
shift_is : (at o k n : ℕ) → 8 * o ≤ at → at + (k + suc n) ≤ 8 * o + 64
    → (64 - (at + k - 8 * o) - suc n) % 64 ≡ 64 - (at - 8 * o + (k + suc n))
shift_is at o k n l i = mod-eq_of_lt (omega arith) ∙ omega arith

-- eight bytes of n from o on, where `place` puts them, start no later than bit at, and have the w bits from it on
pub placed : (at n w : ℕ) {o : ℕ} → o ≡ min (at / 8) (n - 8) → 8 ≤ n → at + w ≤ 8 * n → w ≤ 57 → (8 * o ≤ at) × (o + 8 ≤ n) × (at + w ≤ 8 * o + 64)
placed at n w e long inside few = (omega (arith, e), omega (arith, e), omega (arith, e))

-- the word at o, shifted up to bit at
module _ (s : List ℕ) (o at w : ℕ) (eo : o ≡ min (at / 8) (length s - 8)) (long : 8 ≤ length s) (g : field 64 w ≡ take 64 (drop (8 * o) (bits s))) where
  before : 8 * o ≤ at
  before = omega (arith, eo)

  inside : o + 8 ≤ length s
  inside = omega (arith, eo)

  near : (m : ℕ) → m ≤ 57 → at + m ≤ 8 * length s → at + m ≤ 8 * o + 64
  near m l i = omega (arith, eo)

  more : (k n : ℕ) → at + (k + suc n) ≤ 8 * o + 64
      → value (take (suc n) (drop (at + k) (bits s))) ≡ (w * 2 ^ ((at - 8 * o) % 64)) % 2 ^ 64 / 2 ^ (64 - (k + suc n)) % 2 ^ suc n
  more k n l =
      let d : ℕ = at - 8 * o in
      let q : ℕ = 64 - (d + (k + suc n)) in
      let ed : d % 64 ≡ d = mod-eq_of_lt (omega (arith, before)) in
      let ek : d + q ≡ 64 - (k + suc n) = omega (arith, before) in
      sym (get-is s o (at + k) (suc n) w (w / 2 ^ q % 2 ^ suc n) (omega (arith, before)) inside (omega arith) g
      (ap (λ (x : ℕ). w / 2 ^ x % 2 ^ suc n) (sym (shift_is at o k n before l))))
      ∙ sym (mod-mod-pow (w / 2 ^ q) k (suc n))
      ∙ ap (λ (x : ℕ). x % 2 ^ suc n) (sym (behind w d (k + suc n) q (omega (arith, before))))
      ∙ ap (λ (x : ℕ). (w * 2 ^ d) % 2 ^ 64 / 2 ^ x % 2 ^ suc n) ek
      ∙ ap (λ (x : ℕ). (w * 2 ^ x) % 2 ^ 64 / 2 ^ (64 - (k + suc n)) % 2 ^ suc n) (sym ed)

  pub front-is : Front (bits s) at ((w * 2 ^ ((at - 8 * o) % 64)) % 2 ^ 64)
  unfolding value_from
  front-is k zero l i = none _
  front-is k (suc n) l i = more k n (near (k + suc n) l (omega (arith, i, length-bits s)))
