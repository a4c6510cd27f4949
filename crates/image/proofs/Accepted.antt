-- Bytes that are accepted are an image, of the list that they say. Assumes nothing.
use mathlib.Core.Path.{◌≡◌}
use mathlib.Core.Bool.{Bool, true, ◌&&◌}
use mathlib.Core.List.{List}
use Prim.Native.Nat.{ℕ, ◌^◌}
use native.Mathlib.Omega.{arith}
use lib.ListN.{length, length-take}
use lib.Dec.{leb}
use borrow.Author.Tests.{leb-true}
use Rattle.lists.specs.Counts.{max_count, within}
use Rattle.lists.proofs.CountLaws.{within-at}
use Rattle.lists.specs.Lists.{concat, same, sum, tabulate}
use Rattle.lists.proofs.Tables.{concat-each}
use Rattle.lists.proofs.Tests.{each, left, right, same-is}
use Rattle.bits.specs.Bits.{bits}
use Rattle.tree.proofs.Shape.{length-counts}
use Rattle.image.specs.Check.{accepted, headed}
use Rattle.image.specs.Image.{IsImage, image, max_hours, max_total, pages}
use Rattle.image.specs.Read.{e_of, list_of, n_of, page_of, page_count_of, sum_of, tree_at}
use Rattle.image.proofs.PageLaws.{pages-cover}

pub length-list : (s : List ℕ) → length (list_of s) ≡ n_of s
unfolding list_of page_count_of page_of
length-list s =
    let k : ℕ = pages (e_of s) (n_of s) in
    omega (
      arith,
      length-take (n_of s) (concat (tabulate k (page_of s))),
      concat-each k (2 ^ e_of s) (page_of s) (λ j _. length-counts (e_of s) (sum_of s j) (bits s) (tree_at s j)),
      pages-cover (e_of s) (n_of s),
    )

pub accepted-only : (s : List ℕ) → accepted s ≡ true → IsImage s (e_of s) (list_of s)
unfolding accepted headed
accepted-only s h =
    let a : Bool = leb (sum (list_of s)) max_total in
    let b : Bool = within max_count (list_of s) in
    let c : Bool = same s (image (e_of s) (list_of s)) in
    let w = each _ (left (headed s) (a && (b && c)) h) in
    let r = right (headed s) (a && (b && c)) h in
    let q = right a (b && c) r in
    record {
      limits = record {
        e-low = leb-true 2 (e_of s) w.1.1.0;
        e-high = leb-true (e_of s) 8 w.1.1.1.0;
        hours = omega (arith, length-list s, leb-true (n_of s) max_hours w.1.1.1.1.1.1.0);
        total = leb-true (sum (list_of s)) max_total (left a (b && c) r);
      };
      counts = within-at max_count (list_of s) (left b c q);
      bytes = same-is s (image (e_of s) (list_of s)) (right b c q);
    }
