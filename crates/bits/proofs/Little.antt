-- Numbers of several bytes, low byte first. Assumes nothing.
use mathlib.Core.Path.{◌≡◌, refl, sym, ap, ap₂, subst, ◌∙◌}
use mathlib.Core.List.{List, [], ◌∷◌, ◌++◌}
use Prim.Native.Nat.{ℕ, zero, suc, ◌+◌, ◌*◌, ◌/◌, ◌%◌, ◌^◌, ◌-◌, ◌≤◌, ◌<◌}
use native.Mathlib.Nat.{add-zero, pow-succ'}
use native.Mathlib.Omega.{arith}
use native.Mathlib.Numerals.{add-one, add-two, add-three}
use lib.ListN.{length, get_or, take, drop, replicate, set, length-append, length-replicate}
use lib.Seq.{drop-cons, take_all}
use Rattle.std.specs.Int.{w64, from_le_bytes, to_le_bytes}
use Rattle.lists.specs.Lists.{part, splice, tabulate}
use Rattle.bits.specs.Numbers.{little, number, number_at, Number}
use Rattle.lists.proofs.Parts.{length_part, sets-splice}
use Rattle.lists.proofs.Tables.{part-table}

pub length-little : (w v : ℕ) → length (little w v) ≡ w
unfolding little
length-little zero v = refl
length-little (suc w) v = ap suc (length-little w (v / 256))

-- a number that fits is read back
pub number-little : (w v : ℕ) → v < 256 ^ w → number (little w v) ≡ v
unfolding little number
number-little zero v h = omega arith
number-little (suc w) v h = omega (arith, number-little w (v / 256) (omega (arith, pow-succ' 256 w)))

-- each is a byte
abbrev pub Bytes : List ℕ → Type 0
Bytes [] = Unit {0}
Bytes (b ∷ bs) = (b < 256) × Bytes bs

pub bytes-little : (w v : ℕ) → Bytes (little w v)
unfolding little
bytes-little zero v = tt
bytes-little (suc w) v = (omega arith, bytes-little w (v / 256))

pub little-zeros : (w : ℕ) → little w 0 ≡ replicate w 0
unfolding little
little-zeros zero = refl
little-zeros (suc w) = ap (λ (z : List ℕ). 0 ∷ z) (little-zeros w)

-- and bytes are those of the number that they stand for
pub little-number : (bs : List ℕ) → Bytes bs → little (length bs) (number bs) ≡ bs
unfolding little number
little-number [] h = refl
little-number (b ∷ bs) h =
    let q : (b + 256 * number bs) / 256 ≡ number bs = omega (arith, h.0) in
    let r : (b + 256 * number bs) % 256 ≡ b = omega (arith, h.0) in
    ap₂ ◌∷◌ r (ap (little (length bs)) q ∙ little-number bs h.1)

pub number_small : (bs : List ℕ) → Bytes bs → number bs < 256 ^ length bs
unfolding number
number_small [] h = omega arith
number_small (b ∷ bs) h = omega (arith, h.0, number_small bs h.1, pow-succ' 256 (length bs))

-- ---- lists of bytes, as a slice says it: whatever the place
pub bytes_of : (s : List ℕ) → ((i : ℕ) → get_or s i 0 < 256) → Bytes s
bytes_of [] h = tt
bytes_of (x ∷ s) h = (h 0, bytes_of s (λ i. h (suc i)))

pub bytes_take : (n : ℕ) (s : List ℕ) → Bytes s → Bytes (take n s)
bytes_take zero s h = tt
bytes_take (suc n) [] h = tt
bytes_take (suc n) (x ∷ s) h = (h.0, bytes_take n s h.1)

bytes_drop : (n : ℕ) (s : List ℕ) → Bytes s → Bytes (drop n s)
bytes_drop zero s h = h
bytes_drop (suc n) [] h = tt
bytes_drop (suc n) (x ∷ s) h = bytes_drop n s h.1

pub bytes-part : (s : List ℕ) → ((i : ℕ) → get_or s i 0 < 256) → (a n : ℕ) → Bytes (part s a n)
bytes-part s h a n = bytes_take n (drop a s) (bytes_drop a s (bytes_of s h))

pub byte-take : (n : ℕ) (s : List ℕ) → ((i : ℕ) → get_or s i 0 < 256) → (i : ℕ) → get_or (take n s) i 0 < 256
byte-take zero s h i = omega arith
byte-take (suc n) [] h i = omega arith
byte-take (suc n) (x ∷ s) h zero = h 0
byte-take (suc n) (x ∷ s) h (suc i) = byte-take n s (λ j. h (suc j)) i

-- the bytes of a part are those of the number that stands in them
pub stored : (s : List ℕ) → ((i : ℕ) → get_or s i 0 < 256) → (a w : ℕ) → a + w ≤ length s → part s a w ≡ little w (number_at s a w)
stored s h a w l =
    sym (ap (λ (z : ℕ). little z (number_at s a w)) (sym (length_part s a w l)) ∙ little-number (part s a w) (bytes-part s h a w))

-- ---- reading and writing: what std says of bytes
abbrev pub eight-at : List ℕ → ℕ → List ℕ
eight-at s a =
    get_or s a 0 ∷ get_or s (a + 1) 0 ∷ get_or s (a + 2) 0 ∷ get_or s (a + 3) 0 ∷ get_or s (a + 4) 0 ∷ get_or s (a + 5) 0 ∷ get_or s (a + 6) 0 ∷ get_or s (a + 7) 0 ∷ []

pub part8 : (s : List ℕ) (a : ℕ) → a + 8 ≤ length s → part s a 8 ≡ eight-at s a
unfolding tabulate
part8 s a h = part-table s a 8 h ∙ rw add-zero

number-zeros : (bs : List ℕ) (k : ℕ) → number (bs ++ replicate k 0) ≡ number bs
unfolding number
number-zeros [] zero = refl
number-zeros [] (suc k) = omega (arith, number-zeros [] k)
number-zeros (b ∷ bs) k = omega (arith, number-zeros bs k)

-- what is read of n bytes with zeros behind them
pub number-read : (s : List ℕ) → ((i : ℕ) → get_or s i 0 < 256) → (a n r : ℕ) (m z : List ℕ) → n ≤ 8 → a + n ≤ length s → m ≡ part s a n
    → z ≡ replicate (8 - n) 0 → r ≡ from_le_bytes w64 (m ++ z) → Number s a n r
unfolding number
number-read s b a n r m z h k em ez g = record { is = is; small = small }
  where
    q : length (part s a n) ≡ n
    q = length_part s a n k

    len : length (m ++ z) ≡ 8
    len = omega (arith, length-append m z, ap (λ (x : List ℕ). length x) em, q, ap (λ (x : List ℕ). length x) ez, length-replicate {A = ℕ} (8 - n) 0)

    is : r ≡ number_at s a n
    is =
        g ∙ omega arith ∙ ap number (sym (part8 (m ++ z) 0 (omega (arith, len))) ∙ take_all 8 (m ++ z) (omega (arith, len)) ∙ ap₂ ◌++◌ em ez)
        ∙ number-zeros (part s a n) (8 - n)

    small : r < 256 ^ n
    small = subst (λ (x : ℕ). x < 256 ^ n) (sym is) (subst (λ (x : ℕ). number_at s a n < 256 ^ x) q (number_small (part s a n) (bytes-part s b a n)))

-- what is written of a word's eight bytes
take-little : (n w v : ℕ) → n ≤ w → take n (little w v) ≡ little n v
unfolding little
take-little zero w v h = refl
take-little (suc n) zero v h = elim h [ ]
take-little (suc n) (suc w) v h = ap (λ (z : List ℕ). v % 256 ∷ z) (take-little n w (v / 256) (omega arith))

all-eight : (v : ℕ) → to_le_bytes w64 v ≡ little 8 v
unfolding little
all-eight v =
    let p2 : v / 65536 ≡ v / 256 / 256 = omega arith in
    let p3 : v / 16777216 ≡ v / 256 / 256 / 256 = omega arith in
    let p4 : v / 4294967296 ≡ v / 256 / 256 / 256 / 256 = omega arith in
    let p5 : v / 1099511627776 ≡ v / 256 / 256 / 256 / 256 / 256 = omega arith in
    let p6 : v / 281474976710656 ≡ v / 256 / 256 / 256 / 256 / 256 / 256 = omega arith in
    let p7 : v / 72057594037927936 ≡ v / 256 / 256 / 256 / 256 / 256 / 256 / 256 = omega arith in
    rw (p2, p3, p4, p5, p6, p7)

pub low : (n v : ℕ) → n ≤ 8 → take n (to_le_bytes w64 v) ≡ little n v
low n v h = ap (take n) (all-eight v) ∙ take-little n 8 v h

-- ---- reading: byte by byte
number-next : (s : List ℕ) (a w : ℕ) → a < length s → number_at s a (suc w) ≡ get_or s a 0 + 256 * number_at s (a + 1) w
unfolding number
number-next s a w h = rw (drop-cons s a 0 h, add-one a)

pub number-none : (s : List ℕ) (a : ℕ) → number_at s a 0 ≡ 0
unfolding number
number-none s a = refl

-- the bytes at a and behind it, as the code names their places
pub number2 : (s : List ℕ) (a b₀ b₁ : ℕ) → a + 2 ≤ length s → b₀ ≡ get_or s a 0 → b₁ ≡ get_or s (a + 1) 0 → b₀ < 256 → b₁ < 256
    → Number s a 2 (b₀ + 256 * b₁)
number2 s a b₀ b₁ h e₀ e₁ l₀ l₁ = record {
  is = omega (arith, number-next s a 1 (omega arith), number-next s (a + 1) 0 (omega arith), number-none s (a + 1 + 1));
  small = omega arith;
}

pub number4 : (s : List ℕ) (a b₀ b₁ b₂ b₃ : ℕ) → a + 4 ≤ length s → b₀ ≡ get_or s a 0 → b₁ ≡ get_or s (a + 1) 0 → b₂ ≡ get_or s (a + 2) 0
    → b₃ ≡ get_or s (a + 3) 0 → b₀ < 256 → b₁ < 256 → b₂ < 256 → b₃ < 256 → Number s a 4 (b₀ + 256 * b₁ + 65536 * b₂ + 16777216 * b₃)
number4 s a b₀ b₁ b₂ b₃ h e₀ e₁ e₂ e₃ l₀ l₁ l₂ l₃ =
    let q₂ : get_or s (a + 2) 0 ≡ get_or s (a + 1 + 1) 0 = ap (λ (z : ℕ). get_or s z 0) {x = a + 2} {y = a + 1 + 1} (omega arith) in
    let q₃ : get_or s (a + 3) 0 ≡ get_or s (a + 1 + 1 + 1) 0 = ap (λ (z : ℕ). get_or s z 0) {x = a + 3} {y = a + 1 + 1 + 1} (omega arith) in
    record {
      is =
          omega (
            arith,
            q₂,
            q₃,
            number-next s a 3 (omega arith),
            number-next s (a + 1) 2 (omega arith),
            number-next s (a + 1 + 1) 1 (omega arith),
            number-next s (a + 1 + 1 + 1) 0 (omega arith),
            number-none s (a + 1 + 1 + 1 + 1),
          );
      small = omega arith;
    }

-- ---- writing: one store a byte
pub put2-is : (s : List ℕ) (a v : ℕ) → a + 2 ≤ length s → set (set s a (v % 256)) (a + 1) (v / 256 % 256) ≡ splice s a (little 2 v)
unfolding little
put2-is s a v h = rw add-one (sets-splice (little 2 v) s a h)

pub put4-is : (s : List ℕ) (a v : ℕ) → a + 4 ≤ length s
    → set (set (set (set s a (v % 256)) (a + 1) (v / 256 % 256)) (a + 2) (v / 256 / 256 % 256)) (a + 3) (v / 256 / 256 / 256 % 256) ≡ splice s a (little 4 v)
unfolding little
put4-is s a v h = rw (add-one, add-two, add-three) (sets-splice (little 4 v) s a h)
