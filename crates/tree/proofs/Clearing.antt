-- Whether bits are 0, looked at piece by piece, each as a number. Assumes nothing.
use mathlib.Core.Path.{◌≡◌, refl, sym, ap, ap₂, ◌∙◌}
use mathlib.Core.Bool.{Bool, true, false, ◌&&◌}
use mathlib.Core.List.{List}
use Prim.Native.Nat.{ℕ, zero, suc, ◌+◌, ◌-◌, ◌*◌, ◌≤◌}
use native.Mathlib.Omega.{arith}
use lib.ListN.{length, replicate, length-replicate, replicate-append-replicate}
use lib.Dec.{eqb}
use borrow.Author.Tests.{eq-eqb, ne_eqb, eqb-true}
use Rattle.lists.specs.Lists.{same, part}
use Rattle.lists.proofs.Parts.{length_part, part-more}
use Rattle.lists.proofs.Tests.{agree, same_refl, same-is, same-join}
use Rattle.bits.specs.Bits.{field, value_from, value, bits}
use Rattle.bits.proofs.Laws.{length-bits}
use Rattle.bits.proofs.Packing.{Bits, bits-bytes}
use Rattle.bits.proofs.Zeros.{field-zero}
use Rattle.tree.specs.Code.Exact.{clear}
use Rattle.tree.proofs.Exacts.{field-part}

pub value-zeros : (n : ℕ) → value (replicate n 0) ≡ 0
unfolding value_from
value-zeros zero = refl
value-zeros (suc n) = value-zeros n

-- bits are 0 if the number in them is
pub clear-value : (b : List ℕ) (a n : ℕ) → Bits b → a + n ≤ length b → clear b a n ≡ eqb (value (part b a n)) 0
unfolding clear
clear-value b a n h l =
    agree (same (part b a n) (replicate n 0)) (eqb (value (part b a n)) 0)
    (λ e. eq-eqb (value (part b a n)) 0 (ap value (same-is (part b a n) (replicate n 0) e) ∙ value-zeros n))
    (λ e. ap (λ (z : List ℕ). same z (replicate n 0))
    (field-part b a n h l ∙ ap (field n) (eqb-true (value (part b a n)) 0 e) ∙ field-zero n) ∙ same_refl (replicate n 0))

clear-more : (b : List ℕ) (a m n : ℕ) → a + m ≤ length b → clear b a (m + n) ≡ (clear b a m && clear b (a + m) n)
unfolding clear
clear-more b a m n l =
    ap₂ same (part-more b a m n) (sym (replicate-append-replicate m n 0))
    ∙ same-join (part b a m) (part b (a + m) n) (replicate m 0) (replicate n 0) (length_part b a m l ∙ sym (length-replicate {A = ℕ} m 0))

-- d of n bits have been looked at, and the next k have the value v: where v is 0, the rest decides
module _ (s : List ℕ) (a n d k v : ℕ) (l : d + k ≤ n) (f : a + n ≤ 8 * length s) (e : v ≡ value (part (bits s) (a + d) k)) where
  abbrev rest : Bool
  rest = clear (bits s) (a + (d + k)) (n - (d + k))

  turn : clear (bits s) (a + d) (n - d) ≡ (eqb v 0 && rest)
  turn =
      let t : n - d ≡ k + (n - (d + k)) = omega arith in
      let u : a + d + k ≡ a + (d + k) = omega arith in
      ap (clear (bits s) (a + d)) t ∙ clear-more (bits s) (a + d) k (n - (d + k)) (omega (arith, length-bits s))
      ∙ ap₂ ◌&&◌ (clear-value (bits s) (a + d) k (bits-bytes s) (omega (arith, length-bits s)) ∙ ap (λ (z : ℕ). eqb z 0) (sym e))
      (ap (λ (z : ℕ). clear (bits s) z (n - (d + k))) u)

  pub clear-on : v ≡ 0 → clear (bits s) (a + d) (n - d) ≡ clear (bits s) (a + (d + k)) (n - (d + k))
  clear-on z = turn ∙ ap (λ (x : Bool). x && rest) (eq-eqb v 0 z)

  pub clear-not : (v ≡ 0 → ⊥) → clear (bits s) (a + d) (n - d) ≡ false
  clear-not z = turn ∙ ap (λ (x : Bool). x && rest) (ne_eqb v 0 z)

pub clear_none : (b : List ℕ) (a n : ℕ) → n ≡ 0 → true ≡ clear b a n
unfolding clear same
clear_none b a zero e = refl
clear_none b a (suc n) e = absurd (omega (arith, e))
