-- What an image says is its list, so that the whole check accepts it. Assumes nothing.
use mathlib.Core.Path.{◌≡◌, ap, ap₂, ◌∙◌}
use mathlib.Core.Bool.{true}
use mathlib.Core.List.{List}
use Prim.Native.Nat.{ℕ, ◌*◌, ◌^◌, ◌≤◌, ◌<◌}
use lib.ListN.{length, get_or, take}
use lib.Dec.{leb}
use borrow.Author.Tests.{le-leb}
use Rattle.lists.specs.Counts.{max_count, within}
use Rattle.lists.proofs.CountLaws.{within-each}
use Rattle.lists.specs.Lists.{concat, same, sum, tabulate, window}
use Rattle.lists.proofs.Pages.{pages-back}
use Rattle.lists.proofs.Tables.{tabulate-ext}
use Rattle.lists.proofs.Tests.{both, same_refl}
use Rattle.bits.specs.Bits.{bits}
use Rattle.tree.specs.Read.{counts}
use Rattle.tree.proofs.Shape.{counts-tree}
use Rattle.image.specs.Check.{accepted}
use Rattle.image.specs.Image.{Limits, image, max_total, page, pages}
use Rattle.image.specs.Read.{list_of, page_of, tree_at}
use Rattle.image.proofs.ReadLaws.{e-is, headed-image, n-is, pages-is, sum_is, tree_is}
use Rattle.image.proofs.PageLaws.{length-page, pages-cover}

-- the pages, one after another, begin with the list
pub list_back : (e k : ℕ) (xs : List ℕ) → length xs ≤ 2 ^ e * k → take (length xs) (concat (tabulate k (page e xs))) ≡ xs
unfolding page window
list_back e k xs h = pages-back (2 ^ e) k xs h

-- ---- on the image of a list
module _ (e : ℕ) (xs : List ℕ) (m : Limits e xs) where
  abbrev S : List ℕ
  S = image e xs

  abbrev P : ℕ
  P = pages e (length xs)

  pub page-is : (p : ℕ) → p < P → page_of S p ≡ page e xs p
  unfolding page_of
  page-is p l =
      ap₂ (λ (h s : ℕ). counts h s (bits S) (tree_at S p)) (e-is e xs) (sum_is e xs m p l)
      ∙ counts-tree e (page e xs p) (bits S) (tree_at S p) (length-page e xs p) (tree_is e xs m p l)

  pub list-is : list_of S ≡ xs
  unfolding list_of
  list-is =
      ap₂ (λ (n k : ℕ). take n (concat (tabulate k (page_of S)))) (n-is e xs m) (pages-is e xs m)
      ∙ ap (λ (z : List (List ℕ)). take (length xs) (concat z)) (tabulate-ext P (page_of S) (page e xs) page-is)
      ∙ list_back e P xs (pages-cover e (length xs))

  pub accepted-image : ((i : ℕ) → get_or xs i 0 ≤ max_count) → accepted S ≡ true
  unfolding accepted
  accepted-image few =
      both (headed-image e xs m)
      (both (ap (λ (z : List ℕ). leb (sum z) max_total) list-is ∙ le-leb (sum xs) max_total m.total)
      (both (ap (within max_count) list-is ∙ within-each max_count xs few)
      (ap₂ (λ (h : ℕ) (z : List ℕ). same S (image h z)) (e-is e xs) list-is ∙ same_refl S)))
