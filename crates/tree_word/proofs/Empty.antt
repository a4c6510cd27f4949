-- The counts of an empty tree, one of sum 0: zeros. Assumes nothing.
use mathlib.Core.Path.{◌≡◌, refl, sym, ap, ◌∙◌}
use mathlib.Core.List.{List}
use Prim.Native.Nat.{ℕ, zero, suc, ◌^◌}
use native.Mathlib.Nat.{pow-succ'}
use native.Mathlib.Omega.{arith}
use lib.ListN.{replicate}
use Rattle.lists.specs.Lists.{splice}
use Rattle.lists.proofs.Zeros.{zeros-split}
use Rattle.bits.specs.Bits.{value_from}
use Rattle.reserve.specs.Reserve.{digits}
use Rattle.tree.specs.Read.{left_of, left_at, right_at, counts}

-- ---- a tree of sum 0
left-none : (b : List ℕ) (a : ℕ) → left_of 0 b a ≡ 0
unfolding left_of digits value_from
left-none b a = refl

counts-none : (h : ℕ) (b : List ℕ) (a : ℕ) → counts h 0 b a ≡ replicate (2 ^ h) 0
unfolding counts
counts-none zero b a = refl
counts-none (suc h) b a =
    rw (left-none b a, counts-none h b (left_at 0 a), counts-none h b (right_at h 0 0 a))
    (sym (zeros-split (2 ^ suc h) (2 ^ h) (2 ^ h) (omega (arith, pow-succ' 2 h))))

-- zeros that were put there are its counts
pub zeros-written : (l o b : List ℕ) (i m h s a : ℕ) → m ≡ 2 ^ h → s ≡ 0 → o ≡ splice l i (replicate m 0) → o ≡ splice l i (counts h s b a)
zeros-written l o b i m h s a em e eo =
    eo ∙ ap (λ (k : ℕ). splice l i (replicate k 0)) em ∙ ap (splice l i) (sym (ap (λ (k : ℕ). counts h k b a) e ∙ counts-none h b a))
