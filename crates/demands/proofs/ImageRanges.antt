-- Demand 2's ranges: of every tree, of every node of every page of an image, and of a live page. Assumes nothing.
use mathlib.Core.Path.{◌≡◌, sym, ap, ◌∙◌, subst}
use mathlib.Core.Bool.{true}
use mathlib.Core.List.{List, [], ◌∷◌, ◌++◌, append-nil}
use Prim.Native.Nat.{ℕ, zero, suc, ◌+◌, ◌-◌, ◌^◌, ◌≤◌, ◌<◌}
use native.Mathlib.Omega.{arith}
use native.Mathlib.Decide.{dec_le}
use lib.ListN.{length, take, drop}
use Rattle.lists.specs.Lists.{part, sum}
use Rattle.bits.specs.Bits.{bits}
use Rattle.reserve.specs.Reserve.{digits, reserve}
use Rattle.tree.specs.Ranges.{Side, child, end, left, node, right}
use Rattle.tree.proofs.RangeLaws.{apart, holds-code, inside, parts-of}
use Rattle.tree.proofs.Shape.{length-tree}
use Rattle.store.specs.PageCode.{page_bytes}
use Rattle.store.specs.Plain.{page as plain_page}
use Rattle.store.specs.Reading.{list_in, page_count_of, read, read_for}
use Rattle.store.specs.Sound.{sound}
use Rattle.store.proofs.Chained.{good-chained}
use Rattle.store.proofs.PageCodeLaws.{cells-hold}
use Rattle.store.proofs.ReadBack.{code-in}
use Rattle.store.proofs.SoundFacts.{facts}
use Rattle.pages.proofs.Coding.{tree-at}
use Rattle.image.specs.Image.{Limits, code, code_start, image, page, pages, start, wide}
use Rattle.image.specs.Read.{code_at, start_of, tree_at, width_of}
use Rattle.demands.specs.Demand2.{Coded, InCells, InImage, Ranges, Related, around, before, behind, code_of, node_in}
use Rattle.demands.specs.Demand2.{page_start, tree_start, within}
use Rattle.image.proofs.ReadLaws.{code_is, start_is, tree_is, width_is}
use Rattle.image.proofs.PageLaws.{start-next, start-within}

-- ---- in one tree
pub related : (ds es : List Side) (h : ℕ) (xs : List ℕ) (a : ℕ) → Related (node ds h xs a) (node es h xs a)
unfolding node child
related [] es h xs a = around (inside es h xs a)
related (d ∷ ds) [] h xs a = within (inside (d ∷ ds) h xs a)
related (d ∷ ds) (e ∷ es) zero xs a = within (omega arith)
related (left ∷ ds) (left ∷ es) (suc h) xs a = related ds es h (take (2 ^ h) xs) (a + digits (sum xs))
related (left ∷ ds) (right ∷ es) (suc h) xs a = before (apart [] ds es (suc h) xs a (omega arith))
related (right ∷ ds) (left ∷ es) (suc h) xs a = behind (apart [] es ds (suc h) xs a (omega arith))
related (right ∷ ds) (right ∷ es) (suc h) xs a = related ds es h (drop (2 ^ h) xs) (a + digits (sum xs) + reserve h (sum (take (2 ^ h) xs)))

pub ranges-of : (h : ℕ) (xs : List ℕ) (a : ℕ) → Ranges h xs a
unfolding node
ranges-of h xs a =
    record {
      owns = λ ds. length-tree (node ds h xs a).height (node ds h xs a).counts ∙ omega arith;
      parts = λ ds k e. parts-of k (node ds h xs a).counts (node ds h xs a).first;
      apart = λ cs ds es. apart cs ds es h xs a;
      related = λ ds es. related ds es h xs a;
      inside = λ ds. inside ds h xs a;
    }

-- ---- in all pages of an image
-- a node's range lies in its page's, behind the page's root
pub node-in-page : (e : ℕ) (xs : List ℕ) (p : ℕ) (ds : List Side)
    → (tree_start e xs p ≤ (node_in e xs p ds).first) × (end (node_in e xs p ds) ≤ page_start e xs (suc p))
node-in-page e xs p ds =
    let i = inside ds e (page e xs p) (tree_start e xs p) in
    (i.0, omega (arith, i.1, start-next e xs p))

start_up : (e : ℕ) (xs : List ℕ) (p k : ℕ) → start e xs p ≤ start e xs (k + p)
start_up e xs p zero = omega (arith, ap (start e xs) {x = 0 + p} {y = p} (omega arith))
start_up e xs p (suc k) = omega (arith, start_up e xs p k, start-next e xs (k + p), ap (start e xs) {x = suc k + p} {y = suc (k + p)} (omega arith))

-- a page ends before any later page starts
pub pages-apart : (e : ℕ) (xs : List ℕ) (p q : ℕ) → p < q → page_start e xs (suc p) ≤ page_start e xs q
pages-apart e xs p q l = omega (arith, start_up e xs (suc p) (q - suc p), ap (start e xs) {x = q - suc p + suc p} {y = q} (omega arith))

nodes-apart : (e : ℕ) (xs : List ℕ) (p q : ℕ) (ds es : List Side) → p < q → end (node_in e xs p ds) ≤ (node_in e xs q es).first
nodes-apart e xs p q ds es l = omega (arith, (node-in-page e xs p ds).1, (node-in-page e xs q es).0, pages-apart e xs p q l)

-- the ranges of any two nodes of an image: one in the other, or no bit in common
pub nodes-related : (e : ℕ) (xs : List ℕ) (p q : ℕ) (ds es : List Side) → Related (node_in e xs p ds) (node_in e xs q es)
nodes-related e xs p q ds es = go (dec_le (suc p) q) (dec_le (suc q) p)
  where
    go : Dec (p < q) → Dec (q < p) → Related (node_in e xs p ds) (node_in e xs q es)
    go (yes l) r = before (nodes-apart e xs p q ds es l)
    go (no l) (yes r) = behind (nodes-apart e xs q p es ds r)
    go (no l) (no r) = same-page (omega arith)
      where
        same-page : p ≡ q → Related (node_in e xs p ds) (node_in e xs q es)
        same-page z = subst (λ (k : ℕ). Related (node_in e xs p ds) (node_in e xs k es)) z (related ds es e (page e xs p) (tree_start e xs p))

-- all within the L bits of code
pub node-in-code : (e : ℕ) (xs : List ℕ) (p : ℕ) (ds : List Side) → p < pages e (length xs)
    → end (node_in e xs p ds) ≤ code_start (wide (sum xs)) (pages e (length xs)) + length (code e xs)
node-in-code e xs p ds l = omega (arith, (node-in-page e xs p ds).1, start-next e xs p, start-within e xs p l)

-- and in the image each range holds the code of its node's counts
pub node-holds : (e : ℕ) (xs : List ℕ) → Limits e xs → (p : ℕ) (ds : List Side) → p < pages e (length xs)
    → Coded (bits (image e xs)) (node_in e xs p ds)
unfolding tree_at
node-holds e xs m p ds l =
    let z : code_at (image e xs) + start_of (image e xs) p + width_of (image e xs) ≡ tree_start e xs p =
    omega (arith, code_is e xs m, start_is e xs m p l, width_is e xs m) in
    holds-code ds e (page e xs p) (bits (image e xs)) (tree_start e xs p)
    (ap (λ (y : ℕ). part (bits (image e xs)) y (reserve e (sum (page e xs p)))) (sym z) ∙ tree_is e xs m p l)

pub in_image : (e : ℕ) (xs : List ℕ) → Limits e xs → InImage e xs
in_image e xs m =
    record {
      in-page = node-in-page e xs;
      pages-apart = pages-apart e xs;
      in_code = node-in-code e xs;
      any-two = nodes-related e xs;
      coded = node-holds e xs m;
    }

-- ---- in a live page's cells
-- what stands in the cells of a sound store's page is the code of its counts
cells-coded : (s : List ℕ) (p : ℕ) → sound s ≡ true → p < page_count_of s → code_of s p ≡ page_bytes (plain_page (list_in s) p)
unfolding read read_for
cells-coded s p h l = let f = facts s h in code-in s (read s) (good-chained (read s) f.good) f.holds p l

pub in_cells : (s : List ℕ) (p : ℕ) → sound s ≡ true → p < page_count_of s → InCells (plain_page (list_in s) p) (code_of s p)
in_cells s p h l =
    let xs : List ℕ = plain_page (list_in s) p in
    let c : code_of s p ≡ page_bytes xs ++ [] = cells-coded s p h l ∙ sym (append-nil (page_bytes xs)) in
    record {
      in_cells = λ ds. omega (arith, (inside ds 6 xs 0).1, cells-hold (sum xs));
      coded = λ ds. holds-code ds 6 xs (bits (code_of s p)) 0 (tree-at (code_of s p) xs [] c);
    }
