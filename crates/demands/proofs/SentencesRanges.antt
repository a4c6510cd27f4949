-- What demand 2 says of coding and ranges, sentence by sentence, of bits. Each law takes what it says from `demand-2`; a claim that says less
-- fails here. Assumes nothing.
use mathlib.Core.Path.{◌≡◌, sym, ap, ◌∙◌}
use mathlib.Core.Bool.{true}
use mathlib.Core.List.{List, [], ◌∷◌, ◌++◌}
use mathlib.Core.Logic.{◌⊎◌, inl, inr}
use Prim.Native.Nat.{ℕ, suc, ◌+◌, ◌*◌, ◌≤◌, ◌<◌}
use native.Mathlib.Omega.{arith}
use native.Mathlib.Decide.{dec_le}
use lib.ListN.{length}
use Rattle.lists.specs.Lists.{sum}
use Rattle.lists.proofs.Tables.{length-tabulate}
use Rattle.bits.specs.Bits.{bits}
use Rattle.reserve.specs.Reserve.{digits, reserve}
use Rattle.tree.specs.Ranges.{Inside, Node, Side, child, end, left, node, right}
use Rattle.tree.specs.Read.{counts}
use Rattle.tree.specs.Tree.{tree}
use Rattle.image.specs.Image.{Limits, code, code_start, image, page, pages, wide}
use Rattle.image.proofs.PageLaws.{length-page}
use Rattle.store.specs.PageCode.{cells}
use Rattle.store.specs.Plain.{page as plain_page}
use Rattle.store.specs.Reading.{list_in, page_count_of}
use Rattle.store.specs.Sound.{sound}
use Rattle.demands.specs.Demand2.{Related, around, before, behind, code_of, node_in, page_start, tree_start, within}
use Rattle.demands.proofs.Demand2.{demand-2}
use Rattle.demands.proofs.NodeLaws.{node-says, node-step}

-- bit x is in a node's range
abbrev pub In : ℕ → Node → Type 0
In x n = (n.first ≤ x) × (x < end n)

-- ---- a tree
-- 'A tree for 2^h counts with known sum s starts at bit a and owns R(2^h, s) bits'
pub tree-owns : (h : ℕ) (xs : List ℕ) → length (tree h xs) ≡ reserve h (sum xs)
unfolding node
tree-owns h xs = (demand-2.trees h xs 0).owns [] ∙ omega arith

module _ (h : ℕ) (xs : List ℕ) (a : ℕ) where
  -- so does each of its subtrees
  pub subtree-owns : (ds : List Side)
      → let n = node ds h xs a in length (tree n.height n.counts) ≡ reserve n.height (sum n.counts)
  subtree-owns ds = (demand-2.trees h xs a).owns ds ∙ omega arith

  -- in each that has two below it: 'the first t bits', 'The left subtree starts at a + t; the right one starts where the left one's reserve
  -- ends', all of it in its own range
  module _ (ds : List Side) (k : ℕ) (e : (node ds h xs a).height ≡ suc k) where
    abbrev n : Node
    n = node ds h xs a

    abbrev m : Side → Node
    m d = node (ds ++ d ∷ []) h xs a

    pub field-stays : n.first + digits (sum n.counts) ≤ end n
    field-stays = rw e ((demand-2.trees h xs a).parts ds k e).field-first

    pub left-starts : (m left).first ≡ n.first + digits (sum n.counts)
    unfolding child
    left-starts = ap (λ (z : Node). z.first) (node-step ds left h xs a k e) ∙ ((demand-2.trees h xs a).parts ds k e).left-after-field

    pub right-starts : (m right).first ≡ end (m left)
    unfolding child
    right-starts =
        ap (λ (z : Node). z.first) (node-step ds right h xs a k e)
        ∙ ((demand-2.trees h xs a).parts ds k e).right-after-left
        ∙ sym (ap (λ (z : Node). end z) (node-step ds left h xs a k e))

    pub right-stays : end (m right) ≤ end n
    unfolding child
    right-stays = rw (node-step ds right h xs a k e, e) ((demand-2.trees h xs a).parts ds k e).right-within

  -- 'Each subtree's bits stay in its reserved range', that of the tree around it
  pub bits-stay : (ds : List Side) (x : ℕ) → In x (node ds h xs a) → (a ≤ x) × (x < a + reserve h (sum xs))
  unfolding node
  bits-stay ds x i = let w = (demand-2.trees h xs a).inside ds in (omega (arith, w.0, i.0), omega (arith, w.1, i.1))

  -- 'sibling ranges are disjoint', with all that is in them: the left one comes first
  pub siblings-in-order : (cs ds es : List Side) → length cs < h → (x y : ℕ) → In x (node (cs ++ left ∷ ds) h xs a)
      → In y (node (cs ++ right ∷ es) h xs a) → x < y
  siblings-in-order cs ds es l x y i j = omega (arith, (demand-2.trees h xs a).apart cs ds es l, i.1, j.0)

  pub siblings-disjoint : (cs ds es : List Side) → length cs < h → (x : ℕ) → In x (node (cs ++ left ∷ ds) h xs a)
      → In x (node (cs ++ right ∷ es) h xs a) → ⊥
  siblings-disjoint cs ds es l x i j = omega (arith, siblings-in-order cs ds es l x x i j)

-- two ranges with a bit in common: one lies in the other
nested : (m n : Node) → Related m n → (x : ℕ) → In x m → In x n → Inside m n ⊎ Inside n m
nested m n (within w) x i j = inl w
nested m n (around w) x i j = inr w
nested m n (before w) x i j = absurd (omega (arith, w, i.1, j.0))
nested m n (behind w) x i j = absurd (omega (arith, w, j.1, i.0))

pub shared-bit : (h : ℕ) (xs : List ℕ) (a : ℕ) (ds es : List Side) (x : ℕ) → In x (node ds h xs a) → In x (node es h xs a)
    → Inside (node ds h xs a) (node es h xs a) ⊎ Inside (node es h xs a) (node ds h xs a)
shared-bit h xs a ds es = nested (node ds h xs a) (node es h xs a) ((demand-2.trees h xs a).related ds es)

-- ---- an image
module _ (e : ℕ) (xs : List ℕ) (m : Limits e xs) where
  pub shared-in-image : (p q : ℕ) (ds es : List Side) (x : ℕ) → In x (node_in e xs p ds) → In x (node_in e xs q es)
      → Inside (node_in e xs p ds) (node_in e xs q es) ⊎ Inside (node_in e xs q es) (node_in e xs p ds)
  shared-in-image p q ds es = nested (node_in e xs p ds) (node_in e xs q es) ((demand-2.images e xs m).any-two p q ds es)

  -- 'Pages follow each other without a gap': none over another
  pub pages-disjoint : (p q : ℕ) (ds es : List Side) → p < q → (x : ℕ) → In x (node_in e xs p ds) → In x (node_in e xs q es) → ⊥
  pages-disjoint p q ds es l x i j =
      let D = demand-2.images e xs m in
      omega (arith, (D.in-page p ds).1, D.pages-apart p q l, (D.in-page q es).0, i.1, j.0)

  -- 'L bits of code'
  pub in-the-code : (p : ℕ) (ds : List Side) → p < pages e (length xs) → (x : ℕ) → In x (node_in e xs p ds)
      → (code_start (wide (sum xs)) (pages e (length xs)) ≤ x) × (x < code_start (wide (sum xs)) (pages e (length xs)) + length (code e xs))
  in-the-code p ds l x i =
      let D = demand-2.images e xs m in
      (omega (arith, (D.in-page p ds).0, i.0), omega (arith, D.in_code p ds l, i.1))

  -- 'A page is r bits of cumulative sum .., then its tree': no node of any page has one of these r bits
  pub roots-apart : (p q : ℕ) (ds : List Side) (x : ℕ) → page_start e xs p ≤ x → x < tree_start e xs p → In x (node_in e xs q ds) → ⊥
  roots-apart p q ds x low high i = go (dec_le (suc p) q) (dec_le (suc q) p)
    where
      go : Dec (p < q) → Dec (q < p) → ⊥
      go (yes l) r =
          let D = demand-2.images e xs m in
          omega (arith, (D.in-page p []).0, (D.in-page p []).1, D.pages-apart p q l, (D.in-page q ds).0, i.0)
      go (no l) (yes r) =
          let D = demand-2.images e xs m in
          omega (arith, (D.in-page q ds).1, D.pages-apart q p r, i.1)
      go (no l) (no r) =
          let z : p ≡ q = omega arith in
          omega (arith, ap (λ (k : ℕ). tree_start e xs k) z, ((demand-2.images e xs m).in-page q ds).0, i.0)

  -- and there the bits say the counts: of each node, and so of the page
  pub node-said : (p : ℕ) (ds : List Side) → p < pages e (length xs)
      → let n = node_in e xs p ds in counts n.height (sum n.counts) (bits (image e xs)) n.first ≡ n.counts
  node-said p ds l =
      node-says ds e (page e xs p) (tree_start e xs p) (bits (image e xs)) (length-page e xs p) ((demand-2.images e xs m).coded p ds l)

  pub page-said : (p : ℕ) → p < pages e (length xs) → counts e (sum (page e xs p)) (bits (image e xs)) (tree_start e xs p) ≡ page e xs p
  unfolding node
  page-said p l = node-said p [] l

-- ---- a page of a sound store, as it stands in its cells
module _ (s : List ℕ) (p : ℕ) (h : sound s ≡ true) (l : p < page_count_of s) where
  abbrev X : List ℕ
  X = plain_page (list_in s) p

  -- 'A page of sum s has ceil(R(64, s) / 240) cells', of 240 bits each
  pub in-its-cells : (ds : List Side) (x : ℕ) → In x (node ds 6 X 0) → x < 240 * cells (sum X)
  in-its-cells ds x i = omega (arith, (demand-2.stores s p h l).in_cells ds, i.1)

  -- 'Its code runs along its chain': there the bits say the counts, of each node and so of the page
  pub node-in-cells-said : (ds : List Side)
      → let n = node ds 6 X 0 in counts n.height (sum n.counts) (bits (code_of s p)) n.first ≡ n.counts
  unfolding plain_page
  node-in-cells-said ds = node-says ds 6 X 0 (bits (code_of s p)) (length-tabulate 64 _) ((demand-2.stores s p h l).coded ds)

  pub cells-said : counts 6 (sum X) (bits (code_of s p)) 0 ≡ X
  unfolding node
  cells-said = node-in-cells-said []
