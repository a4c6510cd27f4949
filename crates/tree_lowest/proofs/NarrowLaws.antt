-- Trees of counts with a limit. Assumes nothing.
use mathlib.Core.Path.{◌≡◌, refl, sym, ap, ◌∙◌}
use mathlib.Core.Bool.{Bool, true, false}
use mathlib.Core.List.{List}
use Prim.Native.Nat.{ℕ, ◌+◌, ◌^◌, ◌≤◌}
use native.Mathlib.Omega.{arith}
use lib.ListN.{length}
use Rattle.lists.specs.Counts.{within}
use Rattle.lists.specs.Lists.{part, sum}
use Rattle.lists.proofs.CountLaws.{within-sum}
use Rattle.lists.proofs.Tests.{left, right}
use Rattle.bits.proofs.Packing.{Bits}
use Rattle.reserve.specs.Reserve.{reserve}
use Rattle.tree.specs.Read.{counts}
use Rattle.tree.specs.Code.Exact.{exact}
use Rattle.tree.specs.Tree.{tree}
use Rattle.tree.proofs.Exacts.{exact-coded, tree-exact}
use Rattle.tree.proofs.Shape.{counts-tree}
use Rattle.tree_lowest.specs.Code.Narrow.{narrow}

module _ (w h s : ℕ) (b : List ℕ) (a : ℕ) where
  pub narrow-not : exact h s b a ≡ false → narrow w h s b a ≡ false
  unfolding narrow
  narrow-not e = rw e

  -- of a list's code
  pub narrow-is : exact h s b a ≡ true → narrow w h s b a ≡ within w (counts h s b a)
  unfolding narrow
  narrow-is e = rw e

  pub narrow_exact : narrow w h s b a ≡ true → exact h s b a ≡ true
  unfolding narrow
  narrow_exact e = left (exact h s b a) (within w (counts h s b a)) e

  pub narrow_within : narrow w h s b a ≡ true → within w (counts h s b a) ≡ true
  unfolding narrow
  narrow_within e = right (exact h s b a) (within w (counts h s b a)) e

  -- whose sum is not above the limit
  pub narrow-few : Bits b → a + reserve h s ≤ length b → s ≤ w → exact h s b a ≡ narrow w h s b a
  narrow-few bb i l = go (exact h s b a) refl
    where
      go : (t : Bool) → exact h s b a ≡ t → t ≡ narrow w h s b a
      go true e = sym (narrow-is e ∙ within-sum w (counts h s b a) (omega (arith, (exact-coded h s b a bb i e).total)))
      go false e = sym (narrow-not e)

-- the code of a list with no count above the limit
pub tree-narrow : (w h : ℕ) (xs b : List ℕ) (a : ℕ) → length xs ≡ 2 ^ h → part b a (reserve h (sum xs)) ≡ tree h xs → within w xs ≡ true
    → narrow w h (sum xs) b a ≡ true
tree-narrow w h xs b a n e l = narrow-is w h (sum xs) b a (tree-exact h xs b a e) ∙ ap (within w) (counts-tree h xs b a n e) ∙ l
