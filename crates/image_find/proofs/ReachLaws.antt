-- Reach: what the code answers from the page that it found is an answer that reach may give, on any bytes. Assumes nothing.
use mathlib.Core.Path.{◌≡◌, refl, sym, ap, ap₂, ◌∙◌, subst}
use mathlib.Core.Bool.{Bool, true, false}
use mathlib.Core.List.{List}
use Prim.Native.Nat.{ℕ, ◌+◌, ◌-◌, ◌*◌, ◌^◌, ◌≤◌, ◌<◌}
use native.Mathlib.Omega.{arith}
use lib.ListN.{length, take}
use lib.Dec.{leb}
use borrow.Author.Tests.{le-leb, leb-true}
use Rattle.lists.specs.Lists.{pick, reached, sum, window}
use Rattle.lists.proofs.Pages.{reached-within}
use Rattle.lists.proofs.Reach.{reached-le, reached-zero}
use Rattle.bits.specs.Bits.{bits}
use Rattle.tree.specs.Read.{Sought, nowhere, at-index, seek}
use Rattle.tree.proofs.SearchLaws.{seek-tree}
use Rattle.image.specs.Check.{accepted, headed}
use Rattle.image.specs.Image.{Limits, image, page, pages, root}
use Rattle.image.specs.Query.{page_fine}
use Rattle.image.specs.Reach.{Reach, any-index, damage, smallest}
use Rattle.image.specs.Read.{before_of, e_of, list_of, n_of, page_count_of, root_at, s_of, sum_of, tree_at}
use Rattle.answers.specs.Image.{given, refused}
use Rattle.image_find.specs.Code.Step.{placed, reach_from}
use Rattle.image.proofs.ReadLaws.{before-is, e-is, n-is, root_is, sum_is, tree_is}
use Rattle.image.proofs.PageLaws.{length-page, page-sum}
use Rattle.image.proofs.Accepted.{accepted-only, length-list}
use Rattle.image.proofs.QueryLaws.{page-fine}

-- the least index, from the page whose root is q or more
pub reached-page : (e : ℕ) (xs : List ℕ) (p q : ℕ) → sum (take (2 ^ e * p) xs) < q → q ≤ root e xs p
    → 2 ^ e * p + reached (q - sum (take (2 ^ e * p) xs)) (page e xs p) ≡ reached q xs
unfolding page window
reached-page e xs p q l r =
    let y : ℕ = sum (take (2 ^ e * p) xs) in
    sym (ap (λ (z : ℕ). reached z xs) {x = q} {y = y + (q - y)} (omega arith)
    ∙ reached-within (2 ^ e) xs p (q - y) (omega arith) (omega (arith, page-sum e xs p)))

module _ (e : ℕ) (xs : List ℕ) (m : Limits e xs) where
  abbrev S : List ℕ
  S = image e xs

  reach-image : (q p : ℕ) → p < pages e (length xs) → before_of S p < q → q ≤ root_at S p → reach_from S q p ≡ given (reached q xs)
  unfolding reach_from pick placed
  reach-image q p k l r =
      let y : ℕ = sum (take (2 ^ e * p) xs) in
      let lo : y < q = omega (arith, before-is e xs m p k) in
      let hi : q ≤ root e xs p = omega (arith, root_is e xs m p k) in
      let d : seek (e_of S) (sum_of S p) (bits S) (tree_at S p) (q - before_of S p) ≡ at-index (reached (q - y) (page e xs p)) =
      ap₂ (λ (h z : ℕ). seek h z (bits S) (tree_at S p) (q - before_of S p)) (e-is e xs) (sum_is e xs m p k)
      ∙ ap (λ (z : ℕ). seek e (sum (page e xs p)) (bits S) (tree_at S p) (q - z)) (before-is e xs m p k)
      ∙ seek-tree e (page e xs p) (bits S) (tree_at S p) (q - y) (length-page e xs p) (omega arith) (omega (arith, page-sum e xs p))
      (tree_is e xs m p k) in
      let i : 2 ^ e * p + reached (q - y) (page e xs p) ≡ reached q xs = reached-page e xs p q lo hi in
      rw (page-fine e xs m p k)
      (ap (placed (2 ^ e_of S * p) (n_of S)) d ∙ last (2 ^ e_of S * p) (n_of S) (reached (q - y) (page e xs p)) (reached q xs)
      (ap (λ (z : ℕ). 2 ^ z * p + reached (q - y) (page e xs p)) (e-is e xs) ∙ i) (omega (arith, n-is e xs m, reached-le q xs)))
    where
      last : (f n i j : ℕ) → f + i ≡ j → j ≤ n → placed f n (at-index i) ≡ given j
      last f n i j a b = rw (a, le-leb j n b)

accepted-page : (s : List ℕ) (q p : ℕ) → accepted s ≡ true → p < page_count_of s → before_of s p < q → q ≤ root_at s p
    → reach_from s q p ≡ given (reached q (list_of s))
unfolding page_count_of
accepted-page s q p a k l r =
    let I = accepted-only s a in
    let e : ℕ = e_of s in
    let xs : List ℕ = list_of s in
    ap (λ (z : List ℕ). reach_from z q p) I.bytes
    ∙ reach-image e xs I.limits q p (subst (λ (z : ℕ). p < pages e z) (sym (length-list s)) k)
    (subst (λ (z : List ℕ). before_of z p < q) I.bytes l) (subst (λ (z : List ℕ). q ≤ root_at z p) I.bytes r)

-- on bytes that check does not accept
loose : (s : List ℕ) (q p : ℕ) → headed s ≡ true → q ≤ s_of s → accepted s ≡ false → Reach s q (reach_from s q p)
unfolding reach_from pick placed
loose s q p h m a = go (page_fine s p) (seek (e_of s) (sum_of s p) (bits s) (tree_at s p) (q - before_of s p))
  where
    inner : (i : ℕ) (b : Bool) → leb i (n_of s) ≡ b → Reach s q (pick b (given i) (refused 6))
    inner i true e = any-index h m a i (leb-true i (n_of s) e)
    inner i false e = damage h m a

    go : (b : Bool) (d : Sought) → Reach s q (pick b (placed (2 ^ e_of s * p) (n_of s) d) (refused 6))
    go false d = damage h m a
    go true nowhere = damage h m a
    go true (at-index i) = inner (2 ^ e_of s * p + i) (leb (2 ^ e_of s * p + i) (n_of s)) refl

-- the answer from a page with its root q or more and the one before it below q is one that reach may give, on any bytes
pub reach-found : (s : List ℕ) (q p : ℕ) → headed s ≡ true → q ≤ s_of s → p < page_count_of s → before_of s p < q → q ≤ root_at s p
    → Reach s q (reach_from s q p)
reach-found s q p h m k l r = go (accepted s) refl
  where
    go : (b : Bool) → accepted s ≡ b → Reach s q (reach_from s q p)
    go true a = subst (Reach s q) (sym (accepted-page s q p a k l r)) (smallest a m)
    go false a = loose s q p h m a

-- reach 0 is 0
pub reach-zero : (s : List ℕ) → headed s ≡ true → Reach s 0 (given 0)
reach-zero s h = go (accepted s) refl
  where
    go : (b : Bool) → accepted s ≡ b → Reach s 0 (given 0)
    go true a = subst (λ (n : ℕ). Reach s 0 (given n)) (reached-zero (list_of s)) (smallest a (omega arith))
    go false a = any-index h (omega arith) a 0 (omega arith)
