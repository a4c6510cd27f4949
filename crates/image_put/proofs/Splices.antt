-- Lists with parts replaced, bytes as their bits, and lists of bytes. Assumes nothing.
use mathlib.Core.Path.{◌≡◌, refl, sym, ap, ap₂, ◌∙◌}
use mathlib.Core.List.{List, [], ◌∷◌, ◌++◌, append_assoc}
use Prim.Native.Nat.{ℕ, zero, suc, ◌+◌, ◌*◌, ◌≤◌, ◌<◌}
use native.Mathlib.Omega.{arith}
use lib.ListN.{length, get_or, take, drop, length-append, length-take, length-drop, take-append-drop}
use lib.Seq.{drop-drop, length-take-le}
use lib.Pow.{pow_mono}
use Rattle.lists.specs.Lists.{concat, splice, tabulate}
use Rattle.lists.proofs.Parts.{splice_at}
use Rattle.bits.specs.Bits.{bits}
use Rattle.bits.specs.Pack.{pack}
use Rattle.bits.proofs.Laws.{bits-append, length-bits}
use Rattle.bits.proofs.Little.{Bytes}
use Rattle.bits.proofs.Packing.{Bits, bits-drop, bits-take, take-bits, value-lt}
use Rattle.image.proofs.Packed.{drop_bits}

-- ---- two parts that do not touch may be replaced in either order
regroup : (p m q z : List ℕ) → (p ++ (m ++ q)) ++ z ≡ p ++ (m ++ (q ++ z))
regroup p m q z = simp append_assoc

splice-late : (p m q n r y : List ℕ) (b : ℕ) → length p + length m + length q ≡ b → length n ≡ length y
    → splice (p ++ (m ++ (q ++ (n ++ r)))) b y ≡ p ++ (m ++ (q ++ (y ++ r)))
splice-late p m q n r y b e l =
    ap (λ (z : List ℕ). splice z b y) (sym (regroup p m q (n ++ r)))
    ∙ splice_at (p ++ (m ++ q)) n y r b (omega (arith, length-append p (m ++ q), length-append m q)) l ∙ regroup p m q (y ++ r)

apart-at : (p m q n r x y : List ℕ) (a b : ℕ) → length p ≡ a → length m ≡ length x → length n ≡ length y → a + length x + length q ≡ b
    → splice (splice (p ++ (m ++ (q ++ (n ++ r)))) a x) b y ≡ splice (splice (p ++ (m ++ (q ++ (n ++ r)))) b y) a x
apart-at p m q n r x y a b lp lm ln lb =
    ap (λ (z : List ℕ). splice z b y) (splice_at p m x (q ++ (n ++ r)) a lp lm) ∙ splice-late p x q n r y b (omega arith) ln
    ∙ sym (ap (λ (z : List ℕ). splice z a x) (splice-late p m q n r y b (omega arith) ln) ∙ splice_at p m x (q ++ (y ++ r)) a lp lm)

cut : (n k m : ℕ) (l : List ℕ) → n + k ≡ m → drop n l ≡ take k (drop n l) ++ drop m l
cut n k m l e = sym (take-append-drop k (drop n l)) ∙ ap (λ (z : List ℕ). take k (drop n l) ++ z) (drop-drop k n l ∙ ap (λ (z : ℕ). drop z l) e)

pub splice-apart : (l x y : List ℕ) (a d b : ℕ) → a + length x + d ≡ b → b + length y ≤ length l
    → splice (splice l a x) b y ≡ splice (splice l b y) a x
splice-apart l x y a d b e h =
    let p : List ℕ = take a l in
    let m : List ℕ = take (length x) (drop a l) in
    let q : List ℕ = take d (drop (a + length x) l) in
    let n : List ℕ = take (length y) (drop b l) in
    let r : List ℕ = drop (b + length y) l in
    let i : l ≡ p ++ (m ++ (q ++ (n ++ r))) =
    sym (take-append-drop a l) ∙ ap (λ (z : List ℕ). p ++ z) (cut a (length x) (a + length x) l refl
    ∙ ap (λ (z : List ℕ). m ++ z) (cut (a + length x) d b l e ∙ ap (λ (z : List ℕ). q ++ z) (cut b (length y) (b + length y) l refl))) in
    ap (λ (z : List ℕ). splice (splice z a x) b y) i
    ∙ apart-at p m q n r x y a b (length-take-le a l (omega arith)) (length-take-le (length x) (drop a l) (omega (arith, length-drop a l)))
    (length-take-le (length y) (drop b l) (omega (arith, length-drop b l)))
    (omega (arith, length-take-le d (drop (a + length x) l) (omega (arith, length-drop (a + length x) l))))
    ∙ sym (ap (λ (z : List ℕ). splice (splice z b y) a x) i)

-- ---- bytes replaced are their bits replaced
pub bits-splice : (s : List ℕ) (a : ℕ) (m : List ℕ) → bits (splice s a m) ≡ splice (bits s) (8 * a) (bits m)
unfolding splice
bits-splice s a m =
    let e : 8 * (a + length m) ≡ 8 * a + length (bits m) = omega (arith, length-bits m) in
    bits-append (take a s) (m ++ drop (a + length m) s)
    ∙ ap₂ ◌++◌ (sym (take-bits a s)) (bits-append m (drop (a + length m) s)
    ∙ ap (λ (z : List ℕ). bits m ++ z) (sym (drop_bits (a + length m) s) ∙ ap (λ (z : ℕ). drop z (bits s)) e))

-- ---- lists of bytes
pub bytes-join : (xs ys : List ℕ) → Bytes xs → Bytes ys → Bytes (xs ++ ys)
bytes-join [] ys h k = k
bytes-join (x ∷ xs) ys h k = (h.0, bytes-join xs ys h.1 k)

pub bytes-concat : (k : ℕ) (f : ℕ → List ℕ) → ((j : ℕ) → Bytes (f j)) → Bytes (concat (tabulate k f))
unfolding tabulate concat
bytes-concat zero f h = tt
bytes-concat (suc k) f h = bytes-join (f 0) (concat (tabulate k (λ j. f (suc j)))) (h 0) (bytes-concat k (λ j. f (suc j)) (λ j. h (suc j)))

pub bytes-pack : (n : ℕ) (bs : List ℕ) → Bits bs → Bytes (pack n bs)
unfolding pack
bytes-pack zero bs h = tt
bytes-pack (suc n) bs h = (
  omega (arith, value-lt (take 8 bs) 0 (bits-take 8 bs h), pow_mono {i = length (take 8 bs)} {j = 8} (omega (arith, length-take 8 bs))),
  bytes-pack n (drop 8 bs) (bits-drop 8 bs h),
)

-- bytes, and then others
pub byte-in : (xs ys : List ℕ) → Bytes xs → ((i : ℕ) → get_or ys i 0 < 256) → (i : ℕ) → get_or (xs ++ ys) i 0 < 256
byte-in [] ys h k i = k i
byte-in (x ∷ xs) ys h k zero = h.0
byte-in (x ∷ xs) ys h k (suc i) = byte-in xs ys h.1 k i
