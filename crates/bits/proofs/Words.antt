-- Laws of words of several bytes: a field within a word, a word of bytes. Assumes nothing.
use mathlib.Core.Path.{◌≡◌, refl, sym, ap, ap₂, ◌∙◌, subst}
use mathlib.Core.List.{List, ◌++◌, append_assoc}
use Prim.Native.Nat.{ℕ, zero, suc, ◌+◌, ◌-◌, ◌*◌, ◌/◌, ◌%◌, ◌^◌, ◌≤◌, ◌<◌}
use native.Mathlib.Nat.{mod-lt, add_assoc, div-one, mod-eq_of_lt, lt_of_lt_of_le}
use native.Mathlib.Omega.{arith}
use lib.ListN.{length, take, drop, set, get_or, length-append, length-set, take-append-drop}
use lib.Seq.{length-take-le, take-add, drop-drop}
use lib.Pow.{pow_pos, pow_mono, shl_lt, shr_lt, shr-shr}
use Rattle.bits.specs.Bits.{field, value, value_from, bits}
use Rattle.lists.specs.Lists.{splice}
use Rattle.lists.proofs.Parts.{mid, splice_at, splice-more, splice-nil}
use Rattle.bits.proofs.Laws.{field-cat, field-more, length-field, length-bits, bits_at, bits-set, byte-is, value_from-field, joined-lt}

-- a number of k digits as those before off, the n digits there, and the low ones
pub parts : (k off n low hi m lo : ℕ) → off + (n + low) ≡ k → m < 2 ^ n → lo < 2 ^ low
    → field k ((hi * 2 ^ n + m) * 2 ^ low + lo) ≡ field off hi ++ (field n m ++ field low lo)
parts k off n low hi m lo e hm hl =
    ap (λ (x : ℕ). field x ((hi * 2 ^ n + m) * 2 ^ low + lo)) (sym e ∙ sym (add_assoc off n low))
    ∙ field-cat (off + n) low (hi * 2 ^ n + m) lo hl
    ∙ ap (λ (l : List ℕ). l ++ field low lo) (field-cat off n hi m hm)
    ∙ append_assoc (field off hi) (field n m) (field low lo)

-- ---- a field within the word w that stands in the k digits of l from a on

module _ (l : List ℕ) (a k off n low w : ℕ) (e : off + (n + low) ≡ k) (g : field k w ≡ take k (drop a l)) (h : a + k ≤ length l) where
  front : List ℕ
  front = take a l ++ field off (w / 2 ^ (low + n))

  back : List ℕ
  back = field low (w % 2 ^ low) ++ drop k (drop a l)

  front_length : length front ≡ a + off
  unfolding front
  front_length = rw (length-append, length-field, length-take-le a l (omega arith))

  opened : l ≡ take a l ++ (field k w ++ drop k (drop a l))
  opened =
      sym (take-append-drop a l)
      ∙ ap (λ (x : List ℕ). take a l ++ x) (sym (take-append-drop k (drop a l)) ∙ ap (λ (x : List ℕ). x ++ drop k (drop a l)) (sym g))

  around : (m : ℕ) → m < 2 ^ n
      → take a l ++ (field k ((w / 2 ^ (low + n) * 2 ^ n + m) * 2 ^ low + w % 2 ^ low) ++ drop k (drop a l)) ≡ front ++ (field n m ++ back)
  unfolding front back
  around m hm = rw (parts k off n low (w / 2 ^ (low + n)) m (w % 2 ^ low) e hm (mod-lt w (pow_pos low))) (simp append_assoc)

  here : l ≡ front ++ (field n (w / 2 ^ low % 2 ^ n) ++ back)
  here =
      opened
      ∙ ap (λ (x : ℕ). take a l ++ (field k x ++ drop k (drop a l))) (sym (byte-is w n low))
      ∙ around (w / 2 ^ low % 2 ^ n) (mod-lt (w / 2 ^ low) (pow_pos n))

  pub field-get : take n (drop (a + off) l) ≡ field n (w / 2 ^ low % 2 ^ n)
  field-get = rw here (mid front (field n (w / 2 ^ low % 2 ^ n)) back (a + off) n front_length (length-field n (w / 2 ^ low % 2 ^ n)))

  pub field_put : (m : ℕ) → m < 2 ^ n
      → splice l a (field k ((w / 2 ^ (low + n) * 2 ^ n + m) * 2 ^ low + w % 2 ^ low)) ≡ splice l (a + off) (field n m)
  field_put m hm =
      ap (λ (x : List ℕ). splice x a (field k ((w / 2 ^ (low + n) * 2 ^ n + m) * 2 ^ low + w % 2 ^ low))) opened
      ∙ splice_at (take a l) (field k w) (field k ((w / 2 ^ (low + n) * 2 ^ n + m) * 2 ^ low + w % 2 ^ low)) (drop k (drop a l)) a
      (length-take-le a l (omega arith)) (rw (length-field, length-field))
      ∙ around m hm
      ∙ sym (splice_at front (field n (w / 2 ^ low % 2 ^ n)) (field n m) back (a + off) front_length (rw (length-field, length-field)))
      ∙ ap (λ (x : List ℕ). splice x (a + off) (field n m)) (sym here)

-- ---- two neighbours

pub join-get : (l : List ℕ) (a i j x y : ℕ) → y < 2 ^ j → field i x ≡ take i (drop a l) → field j y ≡ take j (drop (a + i) l)
    → field (i + j) (x * 2 ^ j + y) ≡ take (i + j) (drop a l)
join-get l a i j x y h gx gy =
    field-cat i j x y h
    ∙ ap₂ (λ (p q : List ℕ). p ++ q) gx (gy ∙ ap (take j) (sym (drop-drop i a l)))
    ∙ sym (take-add i j (drop a l))

pub join-put : (l m r : List ℕ) (a d n k x : ℕ) → m ≡ splice l a (field d (x / 2 ^ (k + n))) → r ≡ splice m (a + d) (field n (x / 2 ^ k % 2 ^ n))
    → a + d + n ≤ length l → r ≡ splice l a (field (d + n) (x / 2 ^ k))
join-put l m r a d n k x em er h =
    er
    ∙ ap₂ (λ (y : List ℕ) (z : ℕ). splice y z (field n (x / 2 ^ k % 2 ^ n))) em (ap (λ (z : ℕ). a + z) (sym (length-field d (x / 2 ^ (k + n)))))
    ∙ splice-more l a (field d (x / 2 ^ (k + n))) (field n (x / 2 ^ k % 2 ^ n)) (rw (length-field, length-field n (x / 2 ^ k % 2 ^ n)) h)
    ∙ ap (splice l a) (sym (field-more d n k x))

-- ---- bytes

byte-get : (s : List ℕ) (i : ℕ) → i < length s → field 8 (get_or s i 0) ≡ take 8 (drop (8 * i) (bits s))
byte-get s i h =
    sym (mid (bits (take i s)) (field 8 (get_or s i 0)) (bits (drop (suc i) s)) (8 * i) 8
    (rw (length-bits, length-take-le i s (omega arith))) (length-field 8 (get_or s i 0)))
    ∙ ap (λ (l : List ℕ). take 8 (drop (8 * i) l)) (sym (bits_at s i h))

pub byte_put : (s : List ℕ) (i v : ℕ) → i < length s → bits (set s i v) ≡ splice (bits s) (8 * i) (field 8 v)
byte_put s i v h =
    bits-set s i v h
    ∙ sym (splice_at (bits (take i s)) (field 8 (get_or s i 0)) (field 8 v) (bits (drop (suc i) s)) (8 * i)
    (rw (length-bits, length-take-le i s (omega arith))) (rw (length-field, length-field)))
    ∙ ap (λ (l : List ℕ). splice l (8 * i) (field 8 v)) (sym (bits_at s i h))

-- the byte d bits after the byte at i
after-get : (s : List ℕ) (i j d b : ℕ) → j < length s → 8 * j ≡ 8 * i + d → b ≡ get_or s j 0 → field 8 b ≡ take 8 (drop (8 * i + d) (bits s))
after-get s i j d b h e eb = ap (field 8) eb ∙ byte-get s j h ∙ ap (λ (x : ℕ). take 8 (drop x (bits s))) e

pub word4-is : (s : List ℕ) (i b₀ b₁ b₂ b₃ : ℕ) → i + 4 ≤ length s → b₁ < 256 → b₂ < 256 → b₃ < 256
    → b₀ ≡ get_or s i 0 → b₁ ≡ get_or s (i + 1) 0 → b₂ ≡ get_or s (i + 2) 0 → b₃ ≡ get_or s (i + 3) 0
    → field 32 (((b₀ * 256 + b₁) * 256 + b₂) * 256 + b₃) ≡ take 32 (drop (8 * i) (bits s))
word4-is s i b₀ b₁ b₂ b₃ h h₁ h₂ h₃ e₀ e₁ e₂ e₃ =
    join-get (bits s) (8 * i) 24 8 _ b₃ h₃
    (join-get (bits s) (8 * i) 16 8 _ b₂ h₂
    (join-get (bits s) (8 * i) 8 8 b₀ b₁ h₁ (ap (field 8) e₀ ∙ byte-get s i (omega arith)) (after-get s i (i + 1) 8 b₁ (omega arith) (omega arith) e₁))
    (after-get s i (i + 2) 16 b₂ (omega arith) (omega arith) e₂))
    (after-get s i (i + 3) 24 b₃ (omega arith) (omega arith) e₃)

pub word8-is : (s : List ℕ) (i x y : ℕ) → y < 2 ^ 32 → field 32 x ≡ take 32 (drop (8 * i) (bits s)) → field 32 y ≡ take 32 (drop (8 * (i + 4)) (bits s))
    → field 64 (x * 4294967296 + y) ≡ take 64 (drop (8 * i) (bits s))
word8-is s i x y h gx gy =
    let e : 8 * (i + 4) ≡ 8 * i + 32 = omega arith in
    join-get (bits s) (8 * i) 32 32 x y h gx (gy ∙ ap (λ (z : ℕ). take 32 (drop z (bits s))) e)

after-put : (s r : List ℕ) (i j d b v : ℕ) → j < length s → 8 * j ≡ 8 * i + d → r ≡ set s j b → b ≡ v → bits r ≡ splice (bits s) (8 * i + d) (field 8 v)
after-put s r i j d b v h e er eb =
    ap bits er ∙ byte_put s j b h ∙ ap₂ (λ (x y : ℕ). splice (bits s) x (field 8 y)) e eb

nothing : (s : List ℕ) (i x : ℕ) → bits s ≡ splice (bits s) (8 * i) (field 0 (x / 2 ^ 32))
unfolding field
nothing s i x = sym (splice-nil (bits s) (8 * i))

pub put4-is : (s s₁ s₂ s₃ s₄ : List ℕ) (i x b₀ b₁ b₂ b₃ : ℕ) → i + 4 ≤ length s
    → s₁ ≡ set s i b₀ → s₂ ≡ set s₁ (i + 1) b₁ → s₃ ≡ set s₂ (i + 2) b₂ → s₄ ≡ set s₃ (i + 3) b₃
    → b₀ ≡ x / 2 ^ 24 % 2 ^ 8 → b₁ ≡ x / 2 ^ 16 % 2 ^ 8 → b₂ ≡ x / 2 ^ 8 % 2 ^ 8 → b₃ ≡ x / 2 ^ 0 % 2 ^ 8
    → bits s₄ ≡ splice (bits s) (8 * i) (field 32 x)
put4-is s s₁ s₂ s₃ s₄ i x b₀ b₁ b₂ b₃ h d₁ d₂ d₃ d₄ e₀ e₁ e₂ e₃ =
    let n = length-bits s in
    let l₁ : length s₁ ≡ length s = ap length d₁ ∙ simp length-set in
    let l₂ : length s₂ ≡ length s₁ = ap length d₂ ∙ simp length-set in
    let l₃ : length s₃ ≡ length s₂ = ap length d₃ ∙ simp length-set in
    join-put (bits s) (bits s₃) (bits s₄) (8 * i) 24 8 0 x
    (join-put (bits s) (bits s₂) (bits s₃) (8 * i) 16 8 8 x
    (join-put (bits s) (bits s₁) (bits s₂) (8 * i) 8 8 16 x
    (join-put (bits s) (bits s) (bits s₁) (8 * i) 0 8 24 x (nothing s i x) (after-put s s₁ i i 0 b₀ _ (omega arith) (omega arith) d₁ e₀) (omega arith))
    (after-put s₁ s₂ i (i + 1) 8 b₁ _ (omega arith) (omega arith) d₂ e₁) (omega arith))
    (after-put s₂ s₃ i (i + 2) 16 b₂ _ (omega arith) (omega arith) d₃ e₂) (omega arith))
    (after-put s₃ s₄ i (i + 3) 24 b₃ _ (omega arith) (omega arith) d₄ e₃) (omega arith)
    ∙ ap (λ (y : ℕ). splice (bits s) (8 * i) (field 32 y)) (div-one x)

pub put8-is : (s m r : List ℕ) (i w x y : ℕ) → i + 8 ≤ length s → x ≡ w / 2 ^ 32 → y ≡ w % 2 ^ 32
    → bits m ≡ splice (bits s) (8 * i) (field 32 x) → bits r ≡ splice (bits m) (8 * (i + 4)) (field 32 y)
    → bits r ≡ splice (bits s) (8 * i) (field 64 w)
put8-is s m r i w x y h ex ey em er =
    let e : 8 * (i + 4) ≡ 8 * i + 32 = omega arith in
    join-put (bits s) (bits m) (bits r) (8 * i) 32 32 0 w
    (em ∙ ap (λ (z : ℕ). splice (bits s) (8 * i) (field 32 z)) ex)
    (er ∙ ap₂ (λ (p q : ℕ). splice (bits m) p (field 32 q)) e (ey ∙ ap (λ (z : ℕ). z % 2 ^ 32) (sym (div-one w))))
    (rw length-bits (omega arith))
    ∙ ap (λ (z : ℕ). splice (bits s) (8 * i) (field 64 z)) (div-one w)

-- ---- a word with a field replaced fits

high_lt : (w k : ℕ) → w < 2 ^ 64 → k ≤ 64 → w / 2 ^ k < 2 ^ (64 - k)
high_lt w k hw h = let e : 64 ≡ 64 - k + k = omega arith in shr_lt (64 - k) k (subst (λ (x : ℕ). w < 2 ^ x) e hw)

pub high_fits : (w n low : ℕ) → w < 2 ^ 64 → n + low ≤ 64 → w / 2 ^ low / 2 ^ n * 2 ^ n < 2 ^ 64
high_fits w n low hw h =
    let j : 64 - (low + n) + n ≤ 64 = omega arith in
    rw (shr-shr w low n) (lt_of_lt_of_le (shl_lt (64 - (low + n)) n (high_lt w (low + n) hw (omega arith))) (pow_mono j))

pub both-fit : (w n low v x : ℕ) → w < 2 ^ 64 → n + low ≤ 64 → v < 2 ^ n → x ≡ w / 2 ^ low / 2 ^ n * 2 ^ n + v → x * 2 ^ low < 2 ^ 64
both-fit w n low v x hw h hv ex =
    let j : 64 - (low + n) + n + low ≤ 64 = omega arith in
    rw (ex, shr-shr w low n)
    (lt_of_lt_of_le (shl_lt (64 - (low + n) + n) low (joined-lt (64 - (low + n)) n (high_lt w (low + n) hw (omega arith)) hv)) (pow_mono j))

pub with-is : (w n low v x y r : ℕ) → x ≡ w / 2 ^ low / 2 ^ n * 2 ^ n + v → y ≡ w % 2 ^ low → r ≡ x * 2 ^ low + y
    → r ≡ (w / 2 ^ (low + n) * 2 ^ n + v) * 2 ^ low + w % 2 ^ low
with-is w n low v x y r ex ey er = rw (er, ex, ey, shr-shr w low n)

-- ---- a word to which a field is added where it has zeros

module _ (w n low v : ℕ) (z : w / 2 ^ low % 2 ^ n ≡ 0) where
  pub added_is : w + v * 2 ^ low ≡ (w / 2 ^ (low + n) * 2 ^ n + v) * 2 ^ low + w % 2 ^ low
  added_is =
      let h : ℕ = w / 2 ^ (low + n) * 2 ^ n in
      let e : (h + 0) * 2 ^ low + w % 2 ^ low ≡ w = ap (λ (m : ℕ). (h + m) * 2 ^ low + w % 2 ^ low) (sym z) ∙ byte-is w n low in
      omega (arith, e)

  pub added-fits : w < 2 ^ 64 → n + low ≤ 64 → v < 2 ^ n → w + v * 2 ^ low < 2 ^ 64
  added-fits hw h hv =
      let j : 64 - (low + n) + n + low ≤ 64 = omega arith in
      rw added_is (lt_of_lt_of_le (joined-lt (64 - (low + n) + n) low (joined-lt (64 - (low + n)) n (high_lt w (low + n) hw (omega arith)) hv)
      (mod-lt w (pow_pos low))) (pow_mono j))

-- ---- the field in the eight bytes at o

zero-mul-add : (x y : ℕ) → 0 * x + y ≡ y
zero-mul-add x y = omega arith

mod-one : (x : ℕ) → x % 2 ^ 0 ≡ 0
mod-one x = omega arith

pub get-is : (s : List ℕ) (o at n w r : ℕ) → 8 * o ≤ at → o + 8 ≤ length s → at + n ≤ 8 * o + 64
    → field 64 w ≡ take 64 (drop (8 * o) (bits s)) → r ≡ w / 2 ^ ((64 - (at - 8 * o) - n) % 64) % 2 ^ n
    → r ≡ value (take n (drop at (bits s)))
unfolding value_from
get-is s o at zero w r ho hl hn g er = er ∙ mod-one (w / 2 ^ ((64 - (at - 8 * o) - 0) % 64))
get-is s o at (suc n) w r ho hl hn g er =
    let k = 64 - (at - 8 * o) - suc n in
    let q : (64 - (at - 8 * o) - suc n) % 64 ≡ 64 - (at - 8 * o) - suc n = mod-eq_of_lt (omega arith) in
    let z : 8 * o + (at - 8 * o) ≡ at = omega arith in
    er ∙ ap (λ (k : ℕ). w / 2 ^ k % 2 ^ suc n) q
    ∙ sym (value_from-field (suc n) 0 (w / 2 ^ k % 2 ^ suc n) (mod-lt (w / 2 ^ k) (pow_pos (suc n))) ∙ zero-mul-add (2 ^ suc n) (w / 2 ^ k % 2 ^ suc n))
    ∙ ap value (sym (field-get (bits s) (8 * o) 64 (at - 8 * o) (suc n) k w (omega arith) g (rw length-bits (omega arith))))
    ∙ ap (λ (k : ℕ). value (take (suc n) (drop k (bits s)))) z

pub put_is : (s : List ℕ) (o at n w v : ℕ) → 8 * o ≤ at → o + 8 ≤ length s → at + n ≤ 8 * o + 64
    → field 64 w ≡ take 64 (drop (8 * o) (bits s)) → v < 2 ^ n
    → splice (bits s) (8 * o) (field 64 ((w / 2 ^ (64 - (at - 8 * o) - n + n) * 2 ^ n + v) * 2 ^ (64 - (at - 8 * o) - n) + w % 2 ^ (64 - (at - 8 * o) - n)))
    ≡ splice (bits s) at (field n v)
put_is s o at n w v ho hl hn g hv =
    let z : 8 * o + (at - 8 * o) ≡ at = omega arith in
    field_put (bits s) (8 * o) 64 (at - 8 * o) n (64 - (at - 8 * o) - n) w (omega arith) g (rw length-bits (omega arith)) v hv
    ∙ ap (λ (k : ℕ). splice (bits s) k (field n v)) z

pub empty-put : (l : List ℕ) (a n v : ℕ) → n ≡ 0 → l ≡ splice l a (field n v)
unfolding field
empty-put l a n v e = sym (ap (λ (k : ℕ). splice l a (field k v)) e ∙ splice-nil l a)

-- the bits of a field that is 0 are 0 in its word
pub none_is : (s : List ℕ) (o at n w : ℕ) → 8 * o ≤ at → o + 8 ≤ length s → at + n ≤ 8 * o + 64 → 1 ≤ n
    → field 64 w ≡ take 64 (drop (8 * o) (bits s)) → value (take n (drop at (bits s))) ≡ 0
    → w / 2 ^ (64 - (at - 8 * o) - n) % 2 ^ n ≡ 0
none_is s o at n w ho hl hn h1 g z =
    ap (λ (k : ℕ). w / 2 ^ k % 2 ^ n) (sym (mod-eq_of_lt (omega arith))) ∙ get-is s o at n w _ ho hl hn g refl ∙ z
