-- Counts none of which is above the limit, half by half. Assumes nothing.
use mathlib.Core.Path.{◌≡◌, sym, ap, ◌∙◌}
use mathlib.Core.Bool.{true}
use mathlib.Core.List.{List, ◌++◌}
use Prim.Native.Nat.{ℕ, suc, ◌-◌, ◌≤◌}
use native.Mathlib.Omega.{arith}
use Rattle.lists.specs.Counts.{max_count, within}
use Rattle.lists.proofs.CountLaws.{within-append, within-at, within-sum}
use Rattle.lists.proofs.Tests.{left, right}
use Rattle.bits.specs.Bits.{bits}
use Rattle.bits.proofs.Laws.{length-bits}
use Rattle.bits.proofs.Packing.{bits-bytes}
use Rattle.tree.specs.Code.Exact.{exact}
use Rattle.tree.specs.Code.Node.{Lies}
use Rattle.tree.specs.Read.{left_of, left_at, right_at, counts}
use Rattle.tree.specs.declared.node.Split.{Split}
use Rattle.tree.proofs.Exacts.{exact-coded}
use Rattle.tree.proofs.Rooting.{Inner}

pub one-fits : (m h s : ℕ) (b : List ℕ) (a : ℕ) → h ≡ 0 → within m (counts h s b a) ≡ true → s ≤ m
unfolding counts
one-fits m h s b a e w = within-at m (counts 0 s b a) (ap (λ (k : ℕ). within m (counts k s b a)) (sym e) ∙ w) 0

counts-two : (h s l : ℕ) (b : List ℕ) (a : ℕ) → left_of s b a ≡ l → counts (suc h) s b a ≡ counts h l b (left_at s a) ++ counts h (s - l) b (right_at h s l a)
unfolding counts
counts-two h s l b a e = rw e

-- of a node that was read
module _ {b : List ℕ} {a h s : ℕ} {r : Split} (n : Inner b a h s r) (w : within max_count (counts h s b a) ≡ true) where
  abbrev X : List ℕ
  X = counts (h - 1) r.left b (left_at s a)

  abbrev Y : List ℕ
  Y = counts (h - 1) (s - r.left) b (right_at (h - 1) s r.left a)

  up : suc (h - 1) ≡ h
  up = omega (arith, n.high)

  two : within max_count (counts (suc (h - 1)) s b a) ≡ true
  two = ap (λ (k : ℕ). within max_count (counts k s b a)) up ∙ w

  joined : within max_count (X ++ Y) ≡ true
  joined = ap (within max_count) (sym (counts-two (h - 1) s r.left b a (sym n.root.left_is))) ∙ two

  pub left-fits : within max_count (counts (h - 1) r.left b r.first) ≡ true
  left-fits = ap (λ (k : ℕ). within max_count (counts (h - 1) r.left b k)) n.root.first-is ∙ left (within max_count X) (within max_count Y) (sym (within-append max_count X Y) ∙ joined)

  pub right-fits : within max_count (counts (h - 1) (s - r.left) b r.second) ≡ true
  right-fits = ap (λ (k : ℕ). within max_count (counts (h - 1) (s - r.left) b k)) n.root.second_is ∙ right (within max_count X) (within max_count Y) (sym (within-append max_count X Y) ∙ joined)

-- of a node of height k
pub of-that : {h k : ℕ} (s : ℕ) (b : List ℕ) (a : ℕ) → h ≡ k → within max_count (counts h s b a) ≡ true → within max_count (counts k s b a) ≡ true
of-that s b a e w = ap (λ (j : ℕ). within max_count (counts j s b a)) (sym e) ∙ w

-- of a code whose sum is not above the limit
pub small-fits : {b : List ℕ} {a h s : ℕ} → Lies b a h s → exact h s (bits b) a ≡ true → s ≤ max_count → within max_count (counts h s (bits b) a) ≡ true
small-fits {b} {a} {h} {s} y x l =
    within-sum max_count (counts h s (bits b) a)
    (omega (arith, (exact-coded h s (bits b) a (bits-bytes b) (omega (arith, length-bits b, y.inside)) x).total))
