-- Zero bits that are written onto: what is behind a piece stays zero, and a piece filled up with zeros is the piece. Assumes nothing.
use mathlib.Core.Path.{◌≡◌, refl, sym, ap, ◌∙◌}
use mathlib.Core.List.{List}
use Prim.Native.Nat.{ℕ, ◌+◌, ◌-◌, ◌≤◌}
use native.Mathlib.Omega.{arith}
use lib.ListN.{length, take, drop, replicate, length-replicate}
use lib.Seq.{length-take-le}
use Rattle.lists.specs.Lists.{part, splice, fill}
use Rattle.lists.proofs.Parts.{mid, part_in, part-beyond, splice-back, splice-more}
use Rattle.lists.proofs.Zeros.{part-zeros}
use Rattle.bits.specs.Bits.{value}
use Rattle.tree_write.specs.Code.Blank.{Blank}
use Rattle.tree.proofs.Clearing.{value-zeros}

blank_part : (b : List ℕ) (a n k m : ℕ) → Blank b a n → k + m ≤ n → Blank b (a + k) m
blank_part b a n k m e h = part_in b (replicate n 0) a n k m e h ∙ part-zeros n k m h

-- a zero field is the number 0
pub blank-value : (b : List ℕ) (a n m : ℕ) → Blank b a n → m ≤ n → value (part b a m) ≡ 0
blank-value b a n m e h =
    ap (λ (k : ℕ). value (part b k m)) {x = a} {y = a + 0} (omega arith) ∙ ap value (blank_part b a n 0 m e (omega arith)) ∙ value-zeros m

pub blank-next : (b r x : List ℕ) (a n k m : ℕ) → Blank b a n → r ≡ splice b a x → a + n ≤ length b → length x ≤ k → k + m ≤ n → Blank r (a + k) m
blank-next b r x a n k m e er h lx l =
    ap (λ (z : List ℕ). part z (a + k) m) er ∙ part-beyond b x a k m (omega arith) lx ∙ blank_part b a n k m e l

pub blank-fill : (b x : List ℕ) (a n : ℕ) → Blank b a n → length x ≤ n → a + n ≤ length b → splice b a x ≡ splice b a (fill n x)
unfolding fill
blank-fill b x a n e l h =
    let z : List ℕ = replicate (n - length x) 0 in
    let lz : length z ≡ n - length x = length-replicate {A = ℕ} (n - length x) 0 in
    let there : part (splice b a x) (a + length x) (length z) ≡ z =
    ap (part (splice b a x) (a + length x)) lz
    ∙ blank-next b (splice b a x) x a n (length x) (n - length x) e refl h (omega arith) (omega arith) in
    sym (splice-back (splice b a x) z (a + length x) there) ∙ splice-more b a x z (omega (arith, lz))

-- ---- bits that were made zeros
pub blank-cleared : (b c : List ℕ) (a n : ℕ) → a + n ≤ length b → c ≡ splice b a (replicate n 0) → Blank c a n
unfolding splice
blank-cleared b c a n h e =
    let z : List ℕ = replicate n 0 in
    ap (λ (y : List ℕ). part y a n) e ∙ mid (take a b) z (drop (a + length z) b) a n (length-take-le a b (omega arith)) (length-replicate {A = ℕ} n 0)
