-- Parts of lists, and lists with a part replaced. Assumes nothing.
use mathlib.Core.Path.{◌≡◌, refl, sym, ap, ap₂, ◌∙◌}
use mathlib.Core.List.{List, [], ◌∷◌, ◌++◌, append_assoc}
use Prim.Native.Nat.{ℕ, zero, suc, ◌+◌, ◌-◌, ◌*◌, ◌≤◌, ◌<◌, min}
use native.Mathlib.Nat.{add-zero, add_assoc, mul-zero, mul-suc}
use native.Mathlib.Numerals.{add-one}
use native.Mathlib.Omega.{arith}
use native.Mathlib.Decide.{dec_le}
use lib.ListN.{length, get_or, take, drop, set, length-append, length-set, length-take, length-drop, take-append-drop}
use lib.Seq.{take-add, take_all, take_at, take-set-le, take-suc, drop_at, take-take, drop-drop, get_or-drop, get_or-set_same, length-take-le, drop-append-add, sets, sets-eq}
use borrow.Rule.Slice.PartMut.{put_mid}
use Rattle.std.specs.Simd.{first_chunks}
use Rattle.lists.specs.Lists.{part, splice}

pub length_part : (s : List ℕ) (a n : ℕ) → a + n ≤ length s → length (part s a n) ≡ n
length_part s a n l = length-take-le n (drop a s) (omega (arith, length-drop a s))

-- a part, and the one behind it
pub part-more : (s : List ℕ) (a m n : ℕ) → part s a (m + n) ≡ part s a m ++ part s (a + m) n
part-more s a m n = take-add m n (drop a s) ∙ ap (λ (z : List ℕ). part s a m ++ take n z) (drop-drop m a s)

pub part-sub : (l : List ℕ) (i n k : ℕ) → i + n ≤ k → take n (drop i (take k l)) ≡ take n (drop i l)
part-sub l zero n k h = take-take n k l (omega arith)
part-sub [] (suc i) n zero h = refl
part-sub (x ∷ l) (suc i) n zero h = absurd (omega arith)
part-sub [] (suc i) n (suc k) h = refl
part-sub (x ∷ l) (suc i) n (suc k) h = part-sub l i n k (omega arith)

-- a part at a + i of a list is the part at i of the part at a
pub part_in : (s x : List ℕ) (a k i n : ℕ) → part s a k ≡ x → i + n ≤ k → part s (a + i) n ≡ part x i n
part_in s x a k i n e h = ap (take n) (sym (drop-drop i a s)) ∙ sym (part-sub (drop a s) i n k h) ∙ ap (λ (z : List ℕ). part z i n) e

-- a piece in the middle
pub mid : (p m q : List ℕ) (a n : ℕ) → length p ≡ a → length m ≡ n → part (p ++ (m ++ q)) a n ≡ m
mid p m q a n ep em = rw (drop_at p (m ++ q) a ep, take_at m q n em)

-- the first n, or as many as there are
pub take-smaller : (s : List ℕ) (n k : ℕ) → k ≡ min n (length s) → take k s ≡ take n s
take-smaller s n k e = go (dec_le n (length s))
  where
    go : Dec (n ≤ length s) → take k s ≡ take n s
    go (yes l) = ap (λ (z : ℕ). take z s) {x = k} {y = n} (omega arith)
    go (no l) = take_all k s (omega arith) ∙ sym (take_all n s (omega arith))

-- past a first list
pub part-skip : (xs ys : List ℕ) (a n k : ℕ) → length xs ≡ k → part (xs ++ ys) (k + a) n ≡ part ys a n
part-skip xs ys a n k e = rw (← e, drop-append-add xs ys a)

-- a piece of a region
pub piece : (b : List ℕ) (a size : ℕ) (p m q : List ℕ) (k n : ℕ) → part b a size ≡ p ++ (m ++ q) → length p ≡ k → length m ≡ n → k + n ≤ size
    → part b (a + k) n ≡ m
piece b a size p m q k n e ep em h = part_in b (p ++ (m ++ q)) a size k n e h ∙ mid p m q k n ep em

-- the front of a part
pub part-front : (s x : List ℕ) (a k n : ℕ) → part s a k ≡ x → n ≤ k → part s a n ≡ take n x
part-front s x a k n e h = sym (take-take n k (drop a s) h) ∙ ap (take n) e

pub splice_at : (p m m' q : List ℕ) (a : ℕ) → length p ≡ a → length m ≡ length m' → splice (p ++ (m ++ q)) a m' ≡ p ++ (m' ++ q)
unfolding splice
splice_at p m m' q a ep em =
    rw (take_at p (m ++ q) a ep)
    (ap (λ (l : List ℕ). p ++ (m' ++ l))
    (ap (λ (k : ℕ). drop k (p ++ (m ++ q))) (ap (λ (x : ℕ). a + x) (sym em))
    ∙ sym (drop-drop (length m) a (p ++ (m ++ q)))
    ∙ ap (drop (length m)) (drop_at p (m ++ q) a ep)
    ∙ drop_at m q (length m) refl))

pub splice-nil : (l : List ℕ) (a : ℕ) → splice l a [] ≡ l
unfolding splice
splice-nil l a = rw (add-zero, take-append-drop)

pub splice-more : (l : List ℕ) (a : ℕ) (m₁ m₂ : List ℕ) → a + length m₁ + length m₂ ≤ length l
    → splice (splice l a m₁) (a + length m₁) m₂ ≡ splice l a (m₁ ++ m₂)
unfolding splice
splice-more l a m₁ m₂ h =
    ap (λ (x : List ℕ). splice x (a + length m₁) m₂) opened
    ∙ splice_at (take a l ++ m₁) (take (length m₂) (drop (a + length m₁) l)) m₂ (drop (length m₂) (drop (a + length m₁) l)) (a + length m₁) front piece
    ∙ closed
  where
    front : length (take a l ++ m₁) ≡ a + length m₁
    front = rw (length-append, length-take-le a l (omega arith))

    piece : length (take (length m₂) (drop (a + length m₁) l)) ≡ length m₂
    piece = length-take-le (length m₂) (drop (a + length m₁) l) (rw length-drop (omega arith))

    opened : splice l a m₁ ≡ (take a l ++ m₁) ++ (take (length m₂) (drop (a + length m₁) l) ++ drop (length m₂) (drop (a + length m₁) l))
    opened = rw (take-append-drop (length m₂) (drop (a + length m₁) l), append_assoc)

    closed : (take a l ++ m₁) ++ (m₂ ++ drop (length m₂) (drop (a + length m₁) l)) ≡ splice l a (m₁ ++ m₂)
    closed = rw (drop-drop, length-append, add_assoc, append_assoc, append_assoc)

-- the same, as two writes say it: a part that is written behind another
pub splice-then : (l m r x y : List ℕ) (a k : ℕ) → m ≡ splice l a x → r ≡ splice m k y → k ≡ a + length x → a + length x + length y ≤ length l
    → r ≡ splice l a (x ++ y)
splice-then l m r x y a k em er ek h = er ∙ ap₂ (λ (z : List ℕ) (i : ℕ). splice z i y) em ek ∙ splice-more l a x y h

-- ---- a slice as chunks of n elements each, as `as_chunks` gives it
pub length-chunks : (n k : ℕ) (s : List ℕ) → length (first_chunks n k s) ≡ k
length-chunks n zero s = refl
length-chunks n (suc k) s = ap suc (length-chunks n k (drop n s))

pub chunk-at : (n k i : ℕ) (s : List ℕ) → i < k → get_or (first_chunks n k s) i [] ≡ part s (n * i) n
chunk-at n zero i s h = absurd (omega arith)
chunk-at n (suc k) zero s h = ap (λ (z : ℕ). part s z n) {x = 0} {y = n * 0} (omega (arith, mul-zero n))
chunk-at n (suc k) (suc i) s h =
    chunk-at n k i (drop n s) (omega arith) ∙ ap (take n) (drop-drop (n * i) n s)
    ∙ ap (λ (z : ℕ). part s z n) {x = n + n * i} {y = n * suc i} (omega (arith, mul-suc n i))

-- what a slice holds after a write to its part, as `s[a..e].fill(0)`
pub put_mid-splice : (a k : ℕ) (l m x : List ℕ) → m ≡ x → k ≡ length x → put_mid a k l m ≡ splice l a x
unfolding splice
put_mid-splice a k l m x em ek =
    ap₂ (λ (y : List ℕ) (n : ℕ). take a l ++ (y ++ drop n (drop a l))) em ek
    ∙ ap (λ (y : List ℕ). take a l ++ (x ++ y)) (drop-drop (length x) a l)

-- ---- what a replaced part leaves
-- behind a piece that was put in stands what stood there
pub part-beyond : (b x : List ℕ) (a k m : ℕ) → a + length x ≤ length b → length x ≤ k → part (splice b a x) (a + k) m ≡ part b (a + k) m
unfolding splice
part-beyond b x a k m h l =
    let front : length (take a b ++ x) ≡ a + length x = omega (arith, length-append (take a b) x, length-take-le a b (omega arith)) in
    let d : ℕ = k - length x in
    let e : a + k ≡ a + length x + d = omega arith in
    ap₂ (λ (z : List ℕ) (i : ℕ). part z i m) (sym (append_assoc (take a b) x (drop (a + length x) b))) e
    ∙ part-skip (take a b ++ x) (drop (a + length x) b) d m (a + length x) front
    ∙ ap (take m) (drop-drop d (a + length x) b)
    ∙ ap (λ (i : ℕ). part b i m) (sym e)

-- to put in what stands there is to put in nothing
pub splice-back : (c z : List ℕ) (k : ℕ) → part c k (length z) ≡ z → splice c k z ≡ c
unfolding splice
splice-back c z k e =
    ap₂ (λ (y w : List ℕ). take k c ++ (y ++ w)) (sym e) (sym (drop-drop (length z) k c))
    ∙ ap (λ (y : List ℕ). take k c ++ y) (take-append-drop (length z) (drop k c))
    ∙ take-append-drop k c

-- a part that is replaced twice
pub splice-over : (b x y : List ℕ) (a : ℕ) → length x ≡ length y → a + length x ≤ length b → splice (splice b a x) a y ≡ splice b a y
unfolding splice
splice-over b x y a e h =
    splice_at (take a b) x y (drop (a + length x) b) a (length-take-le a b (omega arith)) e ∙ ap (λ (k : ℕ). take a b ++ (y ++ drop (a + k) b)) e

-- ---- stores one after another
pub sets-snoc : (v s : List ℕ) (a x : ℕ) → sets s a (v ++ x ∷ []) ≡ set (sets s a v) (a + length v) x
sets-snoc [] s a x = ap (λ (z : ℕ). set s z x) {x = a} {y = a + 0} (omega arith)
sets-snoc (y ∷ v) s a x = sets-snoc v (set s a y) (suc a) x
    ∙ ap (λ (z : ℕ). set (sets (set s a y) (suc a) v) z x) {x = suc a + length v} {y = a + suc (length v)} (omega arith)

-- one more element of those from f on
pub sets-next : (s v : List ℕ) (a f i : ℕ) → f + i < length v → set (sets s a (part v f i)) (a + i) (get_or v (f + i) 0) ≡ sets s a (part v f (i + 1))
sets-next s v a f i l =
    let e : part v f (i + 1) ≡ part v f i ++ (get_or v (f + i) 0 ∷ []) =
    rw (add-one, ← get_or-drop f v i 0) (take-suc (drop f v) i 0 (omega (arith, length-drop f v))) in
    let n : length (part v f i) ≡ i = length_part v f i (omega arith) in
    sym (ap (sets s a) e ∙ sets-snoc (part v f i) s a (get_or v (f + i) 0) ∙ ap (λ (z : ℕ). set (sets s a (part v f i)) (a + z) (get_or v (f + i) 0)) n)

-- they are a splice
pub sets-splice : (v s : List ℕ) (a : ℕ) → a + length v ≤ length s → sets s a v ≡ splice s a v
unfolding splice
sets-splice v s a h = sets-eq v s a h ∙ append_assoc (take a s) v (drop (a + length v) s)

pub length-splice : (s : List ℕ) (a : ℕ) (v : List ℕ) → a + length v ≤ length s → length (splice s a v) ≡ length s
unfolding splice
length-splice s a v h =
    omega (arith, length-append (take a s) (v ++ drop (a + length v) s), length-append v (drop (a + length v) s), length-take a s, length-drop (a + length v) s)

-- ---- an array copied
-- one number more
pub copied_next : (c d : List ℕ) (i : ℕ) → i < length c → i < length d → take i c ≡ take i d → take (i + 1) (set c i (get_or d i 0)) ≡ take (i + 1) d
copied_next c d i l k e =
    let x : ℕ = get_or d i 0 in
    rw add-one
    (take-suc (set c i x) i 0 (omega (arith, length-set c i x, l))
    ∙ ap₂ (λ (p : List ℕ) (y : ℕ). p ++ y ∷ []) (take-set-le i c i x (omega arith) ∙ e) (get_or-set_same c i x 0 l)
    ∙ sym (take-suc d i 0 k))
