-- Bits, fields and bytes go over into each other. Assumes nothing.
use mathlib.Core.Path.{◌≡◌, refl, sym, ap, ap₂, ◌∙◌}
use mathlib.Core.List.{List, [], ◌∷◌, ◌++◌, append_assoc, append-nil}
use Prim.Native.Nat.{ℕ, zero, suc, ◌+◌, ◌-◌, ◌*◌, ◌/◌, ◌%◌, ◌^◌, ◌≤◌, ◌<◌}
use native.Mathlib.Nat.{add-zero, mod-lt, mul-le-mul_right, pow-succ'}
use native.Mathlib.Omega.{arith}
use lib.ListN.{length, get_or, take, drop, replicate, length-append, length-take, length-drop, length-replicate, take-append-drop}
use lib.Pow.{pow_pos}
use lib.Seq.{take_all, take-nil, take_at, take-append-le, take-append-add, drop_at, drop-append-le}
use Rattle.lists.specs.Lists.{fill, part}
use Rattle.lists.proofs.Zeros.{zeros-split}
use Rattle.bits.specs.Bits.{field, value_from, value, bits}
use Rattle.bits.specs.Pack.{pack}
use Rattle.bits.proofs.Laws.{length-field, value_from-field}
use Rattle.bits.proofs.Words.{field-get}

-- each is 0 or 1
abbrev pub Bits : List ℕ → Type 0
Bits [] = Unit {0}
Bits (b ∷ bs) = (b < 2) × Bits bs

pub bits-join : (xs ys : List ℕ) → Bits xs → Bits ys → Bits (xs ++ ys)
bits-join [] ys h j = j
bits-join (x ∷ xs) ys h j = (h.0, bits-join xs ys h.1 j)

pub bits-take : (n : ℕ) (xs : List ℕ) → Bits xs → Bits (take n xs)
bits-take zero xs h = tt
bits-take (suc n) [] h = tt
bits-take (suc n) (x ∷ xs) h = (h.0, bits-take n xs h.1)

pub bits-drop : (n : ℕ) (xs : List ℕ) → Bits xs → Bits (drop n xs)
bits-drop zero xs h = h
bits-drop (suc n) [] h = tt
bits-drop (suc n) (x ∷ xs) h = bits-drop n xs h.1

pub bits-zeros : (n : ℕ) → Bits (replicate n 0)
bits-zeros zero = tt
bits-zeros (suc n) = (omega arith, bits-zeros n)

pub bits-field : (w v : ℕ) → Bits (field w v)
unfolding field
bits-field zero v = tt
bits-field (suc w) v = bits-join (field w (v / 2)) (v % 2 ∷ []) (bits-field w (v / 2)) (omega arith, tt)

pub bits-bytes : (s : List ℕ) → Bits (bits s)
unfolding bits
bits-bytes [] = tt
bits-bytes (b ∷ s) = bits-join (field 8 b) (bits s) (bits-field 8 b) (bits-bytes s)

-- the field of a number that bits make is these bits
field-from : (bs : List ℕ) (k a : ℕ) → Bits bs → field (k + length bs) (value_from a bs) ≡ field k a ++ bs
unfolding field value_from
field-from [] k a h = rw (add-zero, append-nil)
field-from (b ∷ bs) k a h =
    let e : k + suc (length bs) ≡ suc k + length bs = omega arith in
    let q : (a * 2 + b) / 2 ≡ a = omega (arith, h.0) in
    let r : (a * 2 + b) % 2 ≡ b = omega (arith, h.0) in
    ap (λ (z : ℕ). field z (value_from (a * 2 + b) bs)) e
    ∙ field-from bs (suc k) (a * 2 + b) h.1
    ∙ ap₂ (λ (x y : ℕ). (field k x ++ (y ∷ [])) ++ bs) q r
    ∙ append_assoc (field k a) (b ∷ []) bs

pub field-value : (bs : List ℕ) → Bits bs → field (length bs) (value bs) ≡ bs
unfolding field
field-value bs h = ap (λ (z : ℕ). field z (value bs)) {x = length bs} {y = 0 + length bs} (omega arith) ∙ field-from bs 0 0 h

pub value-field : (w v : ℕ) → v < 2 ^ w → value (field w v) ≡ v
value-field w v h = value_from-field w 0 v h ∙ omega arith

-- a piece of a field, as a field and as a number
pub field-piece : (r v k n : ℕ) → k + n ≤ r → part (field r v) k n ≡ field n (v / 2 ^ (r - (k + n)) % 2 ^ n)
field-piece r v k n l =
    let g : field r v ≡ take r (drop 0 (field r v)) = sym (take_all r (field r v) (omega (arith, length-field r v))) in
    ap (λ (z : ℕ). part (field r v) z n) {x = k} {y = 0 + k} (omega arith)
    ∙ field-get (field r v) 0 r k n (r - (k + n)) v (omega arith) g (omega (arith, length-field r v))

pub value-piece : (r v k n : ℕ) → k + n ≤ r → value (part (field r v) k n) ≡ v / 2 ^ (r - (k + n)) % 2 ^ n
value-piece r v k n l =
    let low : ℕ = r - (k + n) in
    ap value (field-piece r v k n l) ∙ value-field n (v / 2 ^ low % 2 ^ n) (mod-lt (v / 2 ^ low) (pow_pos n))

-- the number that bits make has no more digits
pub value-lt : (bs : List ℕ) (a : ℕ) → Bits bs → value_from a bs < (a + 1) * 2 ^ length bs
unfolding value_from
value-lt [] a h = omega arith
value-lt (b ∷ bs) a h =
    let w : value_from (a * 2 + b) bs < (a * 2 + b + 1) * 2 ^ length bs = value-lt bs (a * 2 + b) h.1 in
    let u : (a * 2 + b + 1) * 2 ^ length bs ≤ (a + 1) * 2 * 2 ^ length bs = mul-le-mul_right (2 ^ length bs) (omega (arith, h.0)) in
    rw (pow-succ' 2 (length bs)) (omega arith)

-- ---- bytes
pub length-pack : (n : ℕ) (bs : List ℕ) → length (pack n bs) ≡ n
unfolding pack
length-pack zero bs = refl
length-pack (suc n) bs = ap suc (length-pack n (drop 8 bs))

pub bits-pack : (n : ℕ) (bs : List ℕ) → length bs ≡ 8 * n → Bits bs → bits (pack n bs) ≡ bs
unfolding bits pack
bits-pack zero [] e h = refl
bits-pack zero (b ∷ bs) e h = absurd (omega (arith, e))
bits-pack (suc n) bs e h =
    let l : length (take 8 bs) ≡ 8 = omega (arith, length-take 8 bs) in
    ap₂ ◌++◌ (ap (λ (z : ℕ). field z (value (take 8 bs))) (sym l) ∙ field-value (take 8 bs) (bits-take 8 bs h))
    (bits-pack n (drop 8 bs) (omega (arith, length-drop 8 bs)) (bits-drop 8 bs h))
    ∙ take-append-drop 8 bs

pub length-fill : (n : ℕ) (bs : List ℕ) → length bs ≤ n → length (fill n bs) ≡ n
unfolding fill
length-fill n bs l = omega (arith, length-append bs (replicate (n - length bs) 0), length-replicate {A = ℕ} (n - length bs) 0)

pub bits-fill : (n : ℕ) (bs : List ℕ) → Bits bs → Bits (fill n bs)
unfolding fill
bits-fill n bs h = bits-join bs (replicate (n - length bs) 0) h (bits-zeros (n - length bs))

-- ---- bytes as their bits

-- bytes are the bytes of their bits
pub pack-bits : (z : List ℕ) → ((i : ℕ) → get_or z i 0 < 256) → pack (length z) (bits z) ≡ z
unfolding pack bits
pack-bits [] h = refl
pack-bits (b ∷ z) h =
    ap₂ ◌∷◌ (ap value (take_at (field 8 b) (bits z) 8 (length-field 8 b)) ∙ value-field 8 b (h 0))
    (ap (pack (length z)) (drop_at (field 8 b) (bits z) 8 (length-field 8 b)) ∙ pack-bits z (λ i. h (suc i)))

-- the bytes of two lists of bits, the first of whole bytes
pub pack-append : (m n : ℕ) (a b : List ℕ) → length a ≡ 8 * m → pack (m + n) (a ++ b) ≡ pack m a ++ pack n b
unfolding pack
pack-append zero n [] b e = ap (λ (z : ℕ). pack z b) {x = 0 + n} {y = n} (omega arith)
pack-append zero n (x ∷ a) b e = absurd (omega (arith, e))
pack-append (suc m) n a b e =
    ap (λ (z : ℕ). pack z (a ++ b)) {x = suc m + n} {y = suc (m + n)} (omega arith)
    ∙ ap₂ ◌∷◌ (ap value (take-append-le 8 a b (omega arith)))
    (ap (pack (m + n)) (drop-append-le 8 a b (omega arith)) ∙ pack-append m n (drop 8 a) b (omega (arith, length-drop 8 a)))

-- zeros are the bytes of zeros
zero-byte : (n : ℕ) → replicate {A = ℕ} (8 * suc n) 0 ≡ replicate 8 0 ++ replicate (8 * n) 0
zero-byte n = zeros-split (8 * suc n) 8 (8 * n) (omega arith)

pub pack-zeros : (n : ℕ) → pack n (replicate (8 * n) 0) ≡ replicate n 0
unfolding pack value_from
pack-zeros zero = refl
pack-zeros (suc n) = ap (pack (suc n)) (zero-byte n) ∙ ap (λ (z : List ℕ). 0 ∷ z) (pack-zeros n)

pub zeros-bits : (n : ℕ) → bits (replicate n 0) ≡ replicate (8 * n) 0
unfolding bits field
zeros-bits zero = refl
zeros-bits (suc n) = ap (λ (z : List ℕ). replicate 8 0 ++ z) (zeros-bits n) ∙ sym (zero-byte n)

-- the bits of the first n bytes
pub take-bits : (n : ℕ) (s : List ℕ) → take (8 * n) (bits s) ≡ bits (take n s)
unfolding bits
take-bits zero s = refl
take-bits (suc n) [] = take-nil (8 * suc n)
take-bits (suc n) (b ∷ s) =
    ap (λ (k : ℕ). take k (field 8 b ++ bits s)) {x = 8 * suc n} {y = length (field 8 b) + 8 * n} (omega (arith, length-field 8 b))
    ∙ take-append-add (field 8 b) (bits s) (8 * n) ∙ ap (λ (z : List ℕ). field 8 b ++ z) (take-bits n s)
