-- Bits as the bytes of an image's code, and bytes as their bits. Assumes nothing.
use mathlib.Core.Path.{◌≡◌, refl, sym, ap, ap₂, ◌∙◌}
use mathlib.Core.List.{List, [], ◌∷◌, ◌++◌}
use Prim.Native.Nat.{ℕ, zero, suc, ◌+◌, ◌-◌, ◌*◌, ◌/◌, ◌<◌}
use native.Mathlib.Omega.{arith}
use lib.ListN.{length, get_or, drop, replicate}
use lib.Seq.{drop_at, drop-drop, drop-nil}
use Rattle.lists.specs.Lists.{fill}
use Rattle.bits.specs.Bits.{bits, field}
use Rattle.bits.specs.Pack.{pack}
use Rattle.bits.proofs.Laws.{length-bits, length-field}
use Rattle.bits.proofs.Packing.{Bits, bits-fill, bits-pack, length-fill, length-pack, pack-bits}
use Rattle.image.specs.Image.{bytes_for, packed}

-- the zeros behind bits in their last byte
unfoldable pub tail : List ℕ → List ℕ
tail bs = replicate (8 * bytes_for (length bs) - length bs) 0

pub bits-packed : (bs : List ℕ) → Bits bs → bits (packed bs) ≡ bs ++ tail bs
unfolding packed fill tail bytes_for
bits-packed bs h =
    let n : ℕ = (length bs + 7) / 8 in
    bits-pack n (fill (8 * n) bs) (length-fill (8 * n) bs (omega arith)) (bits-fill (8 * n) bs h)

pub length-packed : (bs : List ℕ) → length (packed bs) ≡ bytes_for (length bs)
unfolding packed
length-packed bs = length-pack (bytes_for (length bs)) (fill (8 * bytes_for (length bs)) bs)

-- bytes with the same bits are the same
pub bits-one : (s t : List ℕ) → ((i : ℕ) → get_or s i 0 < 256) → ((i : ℕ) → get_or t i 0 < 256) → bits s ≡ bits t → s ≡ t
bits-one s t hs ht e =
    let n : length s ≡ length t = omega (arith, length-bits s, length-bits t, ap length e) in
    sym (pack-bits s hs) ∙ ap₂ pack n e ∙ pack-bits t ht

-- the bits behind the first n bytes
pub drop_bits : (n : ℕ) (s : List ℕ) → drop (8 * n) (bits s) ≡ bits (drop n s)
unfolding bits
drop_bits zero s = refl
drop_bits (suc n) [] = drop-nil (8 * suc n)
drop_bits (suc n) (b ∷ s) =
    ap (λ (k : ℕ). drop k (field 8 b ++ bits s)) {x = 8 * suc n} {y = 8 + 8 * n} (omega arith)
    ∙ sym (drop-drop (8 * n) 8 (field 8 b ++ bits s))
    ∙ ap (drop (8 * n)) (drop_at (field 8 b) (bits s) 8 (length-field 8 b)) ∙ drop_bits n s
