-- Laws of fields, values and bits. Assumes nothing.
use mathlib.Core.Path.{◌≡◌, refl, sym, ap, ◌∙◌}
use mathlib.Core.List.{List, [], ◌∷◌, ◌++◌, append_assoc, append-nil}
use Prim.Native.Nat.{ℕ, zero, suc, ◌+◌, ◌*◌, ◌/◌, ◌%◌, ◌^◌, ◌<◌}
use native.Mathlib.Nat.{mod-lt, add-zero, mul-one, add-suc, pow-suc, mul_assoc}
use native.Mathlib.Numerals.{add-one}
use native.Mathlib.Omega.{arith}
use lib.ListN.{length, take, drop, set, get_or, length-append}
use lib.Seq.{split_at, set_split}
use lib.Arith.{lt-one, digits_lt}
use lib.Pow.{pow_pos, pow-add, split, shr-shr}
use lib.Bits.{block_half, block_odd}
use Rattle.bits.specs.Bits.{field, value_from, bits}

-- ---- fields

-- a high part, and b low digits
pub field-cat : (a b hi lo : ℕ) → lo < 2 ^ b → field (a + b) (hi * 2 ^ b + lo) ≡ field a hi ++ field b lo
unfolding field
field-cat a zero hi lo h = rw (lt-one h, add-zero, add-zero, mul-one, append-nil)
field-cat a (suc b) hi lo h =
    rw (add-suc, block_half hi b lo, block_odd hi b lo, field-cat a b hi (lo / 2) (half b lo h), append_assoc)
  where
    half : (b lo : ℕ) → lo < 2 ^ suc b → lo / 2 < 2 ^ b
    half b lo h = omega (arith, pow-suc 2 b)

pub length-field : (w v : ℕ) → length (field w v) ≡ w
unfolding field
length-field zero v = refl
length-field (suc w) v = rw (length-append, length-field w (v / 2), add-one)

pub value-append : (a : ℕ) (xs ys : List ℕ) → value_from a (xs ++ ys) ≡ value_from (value_from a xs) ys
unfolding value_from
value-append a [] ys = refl
value-append a (x ∷ xs) ys = value-append (a * 2 + x) xs ys

pub value_from-field : (w a v : ℕ) → v < 2 ^ w → value_from a (field w v) ≡ a * 2 ^ w + v
unfolding field value_from
value_from-field zero a v h = rw (lt-one h, mul-one, add-zero)
value_from-field (suc w) a v h =
    value-append a (field w (v / 2)) (v % 2 ∷ [])
    ∙ ap (λ (x : ℕ). x * 2 + v % 2) (value_from-field w a (v / 2) (omega (arith, pow-suc 2 w)))
    ∙ step
  where
    step : (a * 2 ^ w + v / 2) * 2 + v % 2 ≡ a * 2 ^ suc w + v
    step = rw (pow-suc, ← mul_assoc) (omega arith)

-- one more piece of a number's digits: those above the low k + n, then the n above the low k
pub field-more : (d n k v : ℕ) → field (d + n) (v / 2 ^ k) ≡ field d (v / 2 ^ (k + n)) ++ field n (v / 2 ^ k % 2 ^ n)
field-more d n k v =
    ap (field (d + n)) (sym (split (v / 2 ^ k) n))
    ∙ field-cat d n (v / 2 ^ k / 2 ^ n) (v / 2 ^ k % 2 ^ n) (mod-lt (v / 2 ^ k) (pow_pos n))
    ∙ ap (λ (x : ℕ). field d x ++ field n (v / 2 ^ k % 2 ^ n)) (shr-shr v k n)

-- ---- bits of bytes

pub length-bits : (s : List ℕ) → length (bits s) ≡ 8 * length s
unfolding bits
length-bits [] = refl
length-bits (b ∷ s) = rw (length-append, length-field 8 b, length-bits s) (omega arith)

pub bits-append : (s t : List ℕ) → bits (s ++ t) ≡ bits s ++ bits t
unfolding bits
bits-append [] t = refl
bits-append (b ∷ s) t = rw (bits-append s t, append_assoc)

-- the bits around the byte at i
pub bits_at : (s : List ℕ) (i : ℕ) → i < length s → bits s ≡ bits (take i s) ++ (field 8 (get_or s i 0) ++ bits (drop (suc i) s))
unfolding bits
bits_at s i h = ap bits (split_at s i 0 h) ∙ bits-append (take i s) (get_or s i 0 ∷ drop (suc i) s)

pub bits-set : (s : List ℕ) (i v : ℕ) → i < length s → bits (set s i v) ≡ bits (take i s) ++ (field 8 v ++ bits (drop (suc i) s))
unfolding bits
bits-set s i v h = ap bits (set_split s i v h) ∙ bits-append (take i s) (v ∷ drop (suc i) s)

-- a number as its high part, n digits and low digits
pub byte-is : (b n low : ℕ) → (b / 2 ^ (low + n) * 2 ^ n + b / 2 ^ low % 2 ^ n) * 2 ^ low + b % 2 ^ low ≡ b
byte-is b n low = rw (← shr-shr b low n, split (b / 2 ^ low) n, split b low)

-- a number of k digits with n more
pub joined-lt : {x y : ℕ} (k n : ℕ) → x < 2 ^ k → y < 2 ^ n → x * 2 ^ n + y < 2 ^ (k + n)
joined-lt k n hx hy = rw (pow-add 2 k n) (digits_lt hx hy)
