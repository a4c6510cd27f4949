-- A tree whose bits stand at the high end of a word: the word's own bits are that tree. Assumes nothing.
use mathlib.Core.Path.{◌≡◌, sym, ap, ap₂, ◌∙◌}
use mathlib.Core.Bool.{true}
use mathlib.Core.List.{List}
use Prim.Native.Nat.{ℕ, ◌+◌, ◌-◌, ◌*◌, ◌/◌, ◌%◌, ◌^◌, ◌≤◌}
use native.Mathlib.Nat.{add-zero}
use native.Mathlib.Omega.{arith}
use lib.ListN.{length}
use Rattle.lists.specs.Lists.{part}
use Rattle.bits.specs.Bits.{bits, field, value}
use Rattle.bits.proofs.Laws.{length-bits, length-field}
use Rattle.bits.proofs.Packing.{Bits, bits-bytes, bits-field, field-piece, value-piece}
use Rattle.bits_field.specs.Code.Front.{Front}
use Rattle.bits_field.proofs.Leading.{up-part}
use Rattle.reserve.specs.Reserve.{digits, reserve}
use Rattle.tree.specs.Read.{left_of, counts}
use Rattle.tree.specs.Code.Exact.{exact}
use Rattle.tree.specs.Code.Node.{Lies}
use Rattle.tree.proofs.Exacts.{field-part, counts-local}
use Rattle.tree.proofs.Local.{exact-local}

-- ---- the bits that a tree owns in b from bit a on stand at the high end of w
pub record HighEnd (b : List ℕ) (a h s w : ℕ) : Type 0 where
  pub each : Bits b
  pub inside : a + reserve h s ≤ length b
  pub same : part (field 64 w) 0 (reserve h s) ≡ part b a (reserve h s)

module _ {b : List ℕ} {a h s w : ℕ} (o : HighEnd b a h s w) (x : exact h s b a ≡ true) where
  pub word-exact : exact h s (field 64 w) 0 ≡ true
  word-exact = exact-local h s (field 64 w) b 0 a o.same ∙ x

  pub word_counts : counts h s (field 64 w) 0 ≡ counts h s b a
  word_counts = counts-local h s b (field 64 w) a 0 o.each o.inside (sym o.same) x

-- in a word that was loaded
pub loaded : {b : List ℕ} {a h s : ℕ} (w : ℕ) → Lies b a h s → reserve h s ≤ 57 → Front (bits b) a w → HighEnd (bits b) a h s w
loaded {b} {a} {h} {s} w y few f =
    let r : ℕ = reserve h s in
    let i : a + r ≤ length (bits b) = omega (arith, y.inside, length-bits b) in
    record {
      each = bits-bytes b;
      inside = i;
      same =
          field-piece 64 w 0 r (omega arith)
          ∙ ap (field r) (sym (f 0 r (omega arith) (omega arith)) ∙ ap (λ (k : ℕ). value (part (bits b) k r)) (add-zero a))
          ∙ sym (field-part (bits b) a r (bits-bytes b) i);
    }

-- in a word that was shifted up by k
pub raised : (w a h s k : ℕ) → a ≡ k → k + reserve h s ≤ 64 → HighEnd (field 64 w) a h s ((w * 2 ^ k) % 2 ^ 64)
raised w a h s k e l =
    record {
      each = bits-field 64 w;
      inside = omega (arith, length-field 64 w);
      same = up-part w k (reserve h s) l ∙ ap (λ (i : ℕ). part (field 64 w) i (reserve h s)) (sym e);
    }

-- ---- a left sum in a word's own bits, by a place and a width that were computed
pub left-at : (s w a k t l : ℕ) → a ≡ k → t ≡ digits s → k + t ≤ 64 → l ≡ w / 2 ^ (64 - (k + t)) % 2 ^ t → left_of s (field 64 w) a ≡ l
unfolding left_of
left-at s w a k t l ea et i el =
    ap₂ (λ (j n : ℕ). value (part (field 64 w) j n)) ea (sym et) ∙ value-piece 64 w k t i ∙ sym el
