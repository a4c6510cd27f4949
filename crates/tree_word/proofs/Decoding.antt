-- The counts of a tree that is some list's code, half by half. Assumes nothing.
use mathlib.Core.Path.{◌≡◌, refl, sym, ap, ◌∙◌}
use mathlib.Core.Bool.{true}
use mathlib.Core.List.{List, [], ◌∷◌, ◌++◌}
use Prim.Native.Nat.{ℕ, suc, ◌+◌, ◌-◌, ◌^◌, ◌≤◌, ◌<◌}
use native.Mathlib.Nat.{pow-succ'}
use native.Mathlib.Numerals.{add-one}
use native.Mathlib.Omega.{arith}
use Rattle.std.specs.Prelude.{Option, None, Some, IsSome}
use lib.Dec.{leb}
use borrow.Author.Tests.{leb-true}
use lib.ListN.{length, set}
use lib.Seq.{set_split}
use Rattle.lists.specs.Lists.{splice}
use Rattle.lists.proofs.Tests.{each}
use Rattle.tree.specs.Read.{left_of, left_at, right_at, counts}
use Rattle.tree.specs.Code.Exact.{clear, spare_at, spare_len, exact}
use Rattle.tree.specs.Code.Node.{PartsOf, Rooted}
use Rattle.tree.specs.declared.node.Split.{Split}
use Rattle.tree.proofs.Shape.{length-counts}
use Rattle.lists.proofs.Parts.{splice-then}
use Rattle.tree.proofs.Rooting.{Inner}

-- ---- the halves of a code are codes

pub record BothExact (h s : ℕ) (b : List ℕ) (a l : ℕ) : Type 0 where
  pub le : leb l s ≡ true
  pub left : exact h l b (left_at s a) ≡ true
  pub right : exact h (s - l) b (right_at h s l a) ≡ true

pub both-exact : (h s : ℕ) (b : List ℕ) (a : ℕ) → exact (suc h) s b a ≡ true → BothExact h s b a (left_of s b a)
unfolding exact
both-exact h s b a e =
    let l : ℕ = left_of s b a in
    let w = each (leb l s ∷ exact h l b (left_at s a) ∷ exact h (s - l) b (right_at h s l a) ∷ clear b (spare_at h s l a) (spare_len h s l) ∷ []) e in
    record { le = w.0; left = w.1.0; right = w.1.1.0 }

-- a code's node that was read as r is no damage
pub record Unfolded (b : List ℕ) (a h s : ℕ) (r : Split) : Type 0 where
  pub node : Inner b a h s r
  pub left-exact : exact (h - 1) r.left b r.first ≡ true
  pub right-exact : exact (h - 1) (s - r.left) b r.second ≡ true

pub unfolded : {b : List ℕ} {a h s : ℕ} {r : Split} → (h ≡ 0 → ⊥) → exact h s b a ≡ true → PartsOf (left_of s b a) a (h - 1) s r → Unfolded b a h s r
unfolded {b} {a} {h} {s} {r} p x n =
    let up : suc (h - 1) ≡ h = omega (arith, p) in
    let q = both-exact (h - 1) s b a (ap (λ (k : ℕ). exact k s b a) up ∙ x) in
    record {
      node = record { high = p; root = n };
      left-exact = rw (n.first-is, n.left_is) q.left;
      right-exact = rw (n.second_is, n.left_is) q.right;
    }

-- so a root was read there
pub rooted-some : (b : List ℕ) (a h s : ℕ) (o : Option Split) → exact (suc h) s b a ≡ true → Rooted b a h s o → IsSome o
rooted-some b a h s None x n = let l = leb-true (left_of s b a) s (both-exact h s b a x).le in absurd (omega (arith, n, l))
rooted-some b a h s (Some r) x n = refl

-- ---- the counts, into a list

pub one-count : (l b : List ℕ) (i h s a : ℕ) → h ≡ 0 → i < length l → set l i s ≡ splice l i (counts h s b a)
unfolding splice counts
one-count l b i h s a e k = rw e (set_split l i s k ∙ rw add-one)

pub counts-node : (h s l : ℕ) (b : List ℕ) (a : ℕ) → left_of s b a ≡ l → counts (suc h) s b a ≡ counts h l b (left_at s a) ++ counts h (s - l) b (right_at h s l a)
unfolding counts
counts-node h s l b a e = rw e

-- counts of two halves, one after the other
pub joined-written : (h x y : ℕ) (b d : List ℕ) {z : List ℕ} → z ≡ counts h x b 0 ++ counts h y d 0 → (o m r : List ℕ) (i half : ℕ) → half ≡ 2 ^ h
    → i + 2 ^ suc h ≤ length o → m ≡ splice o i (counts h x b 0) → r ≡ splice m (i + half) (counts h y d 0) → r ≡ splice o i z
joined-written h x y b d ez o m r i half eh fits em er =
    let lX : length (counts h x b 0) ≡ 2 ^ h = length-counts h x b 0 in
    let lY : length (counts h y d 0) ≡ 2 ^ h = length-counts h y d 0 in
    splice-then o m r (counts h x b 0) (counts h y d 0) i (i + half) em er (omega arith) (omega (arith, pow-succ' 2 h)) ∙ ap (splice o i) (sym ez)

-- the counts of a node's left half, whose sum is l, and then those of its right half are the node's
pub halves-written : (h s l : ℕ) (b : List ℕ) (a : ℕ) → left_of s b a ≡ l → (o m r : List ℕ) (i half : ℕ) → half ≡ 2 ^ h → i + 2 ^ suc h ≤ length o
    → m ≡ splice o i (counts h l b (left_at s a)) → r ≡ splice m (i + half) (counts h (s - l) b (right_at h s l a)) → r ≡ splice o i (counts (suc h) s b a)
halves-written h s l b a el o m r i half eh fits em er =
    let X : List ℕ = counts h l b (left_at s a) in
    let Y : List ℕ = counts h (s - l) b (right_at h s l a) in
    let lX : length X ≡ 2 ^ h = length-counts h l b (left_at s a) in
    let lY : length Y ≡ 2 ^ h = length-counts h (s - l) b (right_at h s l a) in
    splice-then o m r X Y i (i + half) em er (omega arith) (omega (arith, pow-succ' 2 h)) ∙ ap (splice o i) (sym (counts-node h s l b a el))

-- the same of a node that was read
module _ {b : List ℕ} {a h s : ℕ} {r : Split} (n : Inner b a h s r) where
  pub both_halves : (l m o : List ℕ) (i half : ℕ) → half ≡ 2 ^ (h - 1) → i + 2 ^ h ≤ length l → m ≡ splice l i (counts (h - 1) r.left b r.first)
      → o ≡ splice m (i + half) (counts (h - 1) (s - r.left) b r.second) → o ≡ splice l i (counts h s b a)
  both_halves l m o i half eh fits em eo =
      let up : suc (h - 1) ≡ h = omega (arith, n.high) in
      halves-written (h - 1) s r.left b a (sym n.root.left_is) l m o i half eh (rw up fits)
      (em ∙ ap (λ (k : ℕ). splice l i (counts (h - 1) r.left b k)) n.root.first-is)
      (eo ∙ ap (λ (k : ℕ). splice m (i + half) (counts (h - 1) (s - r.left) b k)) n.root.second_is)
      ∙ ap (λ (k : ℕ). splice l i (counts k s b a)) up

-- ---- a node of height k, as it was tested
pub height-written : (h s k : ℕ) (b : List ℕ) (a : ℕ) (o r : List ℕ) (i : ℕ) → h ≡ k → r ≡ splice o i (counts k s b a) → r ≡ splice o i (counts h s b a)
height-written h s k b a o r i e f = f ∙ ap (λ (j : ℕ). splice o i (counts j s b a)) (sym e)
