-- Bytes and words of bytes, as their bits. Assumes nothing.
use mathlib.Core.Path.{◌≡◌, refl, sym, ap, ap₂, subst, ◌∙◌}
use mathlib.Core.List.{List, [], ◌∷◌, ◌++◌, append_assoc, append-nil}
use Prim.Native.Nat.{ℕ, zero, suc, ◌+◌, ◌*◌, ◌^◌, ◌≤◌, ◌<◌}
use native.Mathlib.Omega.{arith}
use lib.ListN.{length, get_or, take, drop}
use lib.Seq.{drop_at, drop-drop, drop-nil}
use Rattle.std.specs.Int.{w64, from_be_bytes, to_be_bytes}
use Rattle.std.proofs.lemmas.Nat.{from_be_bytes-to_be_bytes_8}
use borrow.Rule.Slice.PartMut.{put_mid}
use Rattle.lists.specs.Lists.{part, splice}
use Rattle.lists.proofs.Parts.{put_mid-splice}
use Rattle.bits.specs.Bits.{bits, field}
use Rattle.bits.proofs.Laws.{bits-append, field-cat, length-bits, length-field}
use Rattle.bits.proofs.Little.{Bytes, bytes-part, eight-at, part8}
use Rattle.bits.proofs.Packing.{take-bits}

-- the bits behind the first n bytes, and those of a part
pub drop_bits : (n : ℕ) (s : List ℕ) → drop (8 * n) (bits s) ≡ bits (drop n s)
unfolding bits
drop_bits zero s = refl
drop_bits (suc n) [] = drop-nil (8 * suc n)
drop_bits (suc n) (b ∷ s) =
    ap (λ (k : ℕ). drop k (field 8 b ++ bits s)) {x = 8 * suc n} {y = 8 + 8 * n} (omega arith)
    ∙ sym (drop-drop (8 * n) 8 (field 8 b ++ bits s))
    ∙ ap (drop (8 * n)) (drop_at (field 8 b) (bits s) 8 (length-field 8 b)) ∙ drop_bits n s

pub part_bits : (s : List ℕ) (a n : ℕ) → part (bits s) (8 * a) (8 * n) ≡ bits (part s a n)
part_bits s a n = ap (take (8 * n)) (drop_bits a s) ∙ take-bits n (drop a s)

-- bytes replaced are their bits replaced
pub bits-splice : (s : List ℕ) (a : ℕ) (m : List ℕ) → bits (splice s a m) ≡ splice (bits s) (8 * a) (bits m)
unfolding splice
bits-splice s a m =
    let e : 8 * (a + length m) ≡ 8 * a + length (bits m) = omega (arith, length-bits m) in
    bits-append (take a s) (m ++ drop (a + length m) s)
    ∙ ap₂ ◌++◌ (sym (take-bits a s)) (bits-append m (drop (a + length m) s)
    ∙ ap (λ (z : List ℕ). bits m ++ z) (sym (drop_bits (a + length m) s) ∙ ap (λ (z : ℕ). drop z (bits s)) e))

-- ---- a word: its bytes, the highest first
abbrev high-first : ℕ → List ℕ → ℕ
high-first a [] = a
high-first a (b ∷ bs) = high-first (a * 256 + b) bs

high-bits : (bs : List ℕ) (k a : ℕ) → Bytes bs → field (k + 8 * length bs) (high-first a bs) ≡ field k a ++ bits bs
unfolding bits
high-bits [] k a h = ap (λ (n : ℕ). field n a) {x = k + 8 * 0} {y = k} (omega arith) ∙ sym (append-nil (field k a))
high-bits (b ∷ bs) k a h =
    ap (λ (n : ℕ). field n (high-first (a * 256 + b) bs)) {x = k + 8 * suc (length bs)} {y = k + 8 + 8 * length bs} (omega arith)
    ∙ high-bits bs (k + 8) (a * 256 + b) h.1
    ∙ ap (λ (l : List ℕ). l ++ bits bs) (field-cat k 8 a b h.0)
    ∙ append_assoc (field k a) (field 8 b) (bits bs)

word-bits : (a b c d e f g h : ℕ) → Bytes (a ∷ b ∷ c ∷ d ∷ e ∷ f ∷ g ∷ h ∷ [])
    → field 64 (from_be_bytes w64 (a ∷ b ∷ c ∷ d ∷ e ∷ f ∷ g ∷ h ∷ [])) ≡ bits (a ∷ b ∷ c ∷ d ∷ e ∷ f ∷ g ∷ h ∷ [])
unfolding field
word-bits a b c d e f g h l =
    ap (field 64) {y = high-first 0 (a ∷ b ∷ c ∷ d ∷ e ∷ f ∷ g ∷ h ∷ [])} (omega arith)
    ∙ high-bits (a ∷ b ∷ c ∷ d ∷ e ∷ f ∷ g ∷ h ∷ []) 0 0 l

-- read and written
pub word-at : (s : List ℕ) (i w : ℕ) → ((j : ℕ) → get_or s j 0 < 256) → i + 8 ≤ length s → w ≡ from_be_bytes w64 (eight-at s i)
    → field 64 w ≡ take 64 (drop (8 * i) (bits s))
word-at s i w h l e =
    let b : Bytes (eight-at s i) = subst Bytes (part8 s i l) (bytes-part s h i 8) in
    ap (field 64) e ∙ word-bits _ _ _ _ _ _ _ _ b ∙ ap bits (sym (part8 s i l)) ∙ sym (part_bits s i 8)

pub word-of : (w : ℕ) → w < 2 ^ 64 → bits (to_be_bytes w64 w) ≡ field 64 w
word-of w h =
    let b : Bytes (to_be_bytes w64 w) =
    (omega arith, (omega arith, (omega arith, (omega arith, (omega arith, (omega arith, (omega arith, (omega arith, tt)))))))) in
    sym (word-bits _ _ _ _ _ _ _ _ b) ∙ ap (field 64) (from_be_bytes-to_be_bytes_8 w h)

pub word_put : (s m : List ℕ) (i k w : ℕ) → w < 2 ^ 64 → k ≡ 8 → m ≡ to_be_bytes w64 w → bits (put_mid i k s m) ≡ splice (bits s) (8 * i) (field 64 w)
word_put s m i k w h ek em =
    ap bits (put_mid-splice i k s m (to_be_bytes w64 w) em ek) ∙ bits-splice s i (to_be_bytes w64 w) ∙ ap (splice (bits s) (8 * i)) (word-of w h)
