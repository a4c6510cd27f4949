-- Page p of an accepted image: where its parts lie, how large its numbers are, and its counts. Assumes nothing.
use mathlib.Core.Path.{◌≡◌, refl, ap, ap₂, ◌∙◌}
use mathlib.Core.Bool.{Bool, true}
use mathlib.Core.List.{List}
use Prim.Native.Nat.{ℕ, zero, suc, ◌+◌, ◌-◌, ◌*◌, ◌^◌, ◌≤◌, ◌<◌}
use native.Mathlib.Omega.{arith}
use lib.ListN.{length, take}
use lib.Pow.{pow_mono}
use Rattle.lists.specs.Counts.{max_count, within}
use Rattle.lists.specs.Lists.{part, splice, sum}
use Rattle.bits.specs.Bits.{bits}
use Rattle.reserve.specs.Reserve.{digits, reserve}
use Rattle.tree.specs.Code.Node.{Lies}
use Rattle.tree.specs.Read.{counts}
use Rattle.tree.specs.Code.Exact.{exact}
use Rattle.tree.specs.Tree.{tree}
use Rattle.tree.proofs.Exacts.{tree-exact}
use Rattle.tree.proofs.Shape.{counts-tree}
use Rattle.image.specs.Check.{accepted}
use Rattle.image.specs.Code.Head.{HeadOf}
use Rattle.image.specs.Image.{Limits, bytes_for, code, code_start, header_length, image, max_total, page, pages, root, size, start, table_at, wide}
use Rattle.image.specs.Read.{before_of, code_at, e_of, list_of, page_count_of, root_at, start_of, sum_of, tree_at, wide_of, width_of}
use Rattle.image.specs.declared.head.Head.{Head}
use Rattle.image.proofs.Accepted.{accepted-only}
use Rattle.image.proofs.ReadLaws.{before-is, code_is, length-image, pages-is, root_is, start_is, sum_is, tree_is, wide_is, width_is}
use Rattle.image.proofs.Editions.{header-least, header-most}
use Rattle.image.proofs.PageLaws.{code-most, length-page, page-le, page-few, page-sum, pages-few, start-within, width-most}
use Rattle.image_page.specs.Code.Places.{PlacesOf}

-- what the code needs to know of it
pub record Page (s : List ℕ) (p : ℕ) : Type 0 where
  pub few : p < 16384
  pub e-high : e_of s ≤ 8
  pub entry_in : table_at (wide_of s) p + 4 ≤ length s
  pub head-low : 16 ≤ header_length (wide_of s)
  pub head-high : header_length (wide_of s) ≤ 24
  pub narrow : width_of s ≤ 40
  pub rises : before_of s p ≤ root_at s p
  pub sum-small : sum_of s p ≤ max_total
  pub code-low : code_at s ≤ 524480
  pub end_low : start_of s p + width_of s + reserve (e_of s) (sum_of s p) ≤ 4294967295
  pub end-in : code_at s + start_of s p + width_of s + reserve (e_of s) (sum_of s p) ≤ 8 * length s
  pub coded : exact (e_of s) (sum_of s p) (bits s) (tree_at s p) ≡ true
  pub few-each : within max_count (counts (e_of s) (sum_of s p) (bits s) (tree_at s p)) ≡ true
  pub counts-are : counts (e_of s) (sum_of s p) (bits s) (tree_at s p) ≡ page (e_of s) (list_of s) p

module _ (s : List ℕ) (a : accepted s ≡ true) where
  abbrev e : ℕ
  e = e_of s

  abbrev xs : List ℕ
  xs = list_of s

  pub limits : Limits e xs
  limits = (accepted-only s a).limits

  same : s ≡ image e xs
  same = (accepted-only s a).bytes

  pages-same : page_count_of s ≡ pages e (length xs)
  pages-same = ap page_count_of same ∙ pages-is e xs limits

  module _ (p : ℕ) (l : p < page_count_of s) where
    inside : p < pages e (length xs)
    inside = omega (arith, pages-same)

    pub roots : root_at s p ≡ root e xs p
    roots = ap (λ (z : List ℕ). root_at z p) same ∙ root_is e xs limits p inside

    sums : sum_of s p ≡ sum (page e xs p)
    sums = ap (λ (z : List ℕ). sum_of z p) same ∙ sum_is e xs limits p inside

    -- what its root is above the coins before it
    pub sum-above : root e xs p ≡ sum (take (2 ^ e * p) xs) + sum_of s p
    sum-above = omega (arith, sums, page-sum e xs p)

    tree-there : part (bits s) (tree_at s p) (reserve e (sum (page e xs p))) ≡ tree e (page e xs p)
    tree-there = ap (λ (z : List ℕ). part (bits z) (tree_at z p) (reserve e (sum (page e xs p)))) same ∙ tree_is e xs limits p inside

    pub accepted-page : Page s p
    unfolding size bytes_for
    accepted-page =
        let W : Bool = wide (sum xs) in
        let wide-same : header_length (wide_of s) ≡ header_length W = ap header_length (ap wide_of same ∙ wide_is e xs) in
        let head-most = header-most W in
        let head-least = header-least W in
        let read : counts e (sum_of s p) (bits s) (tree_at s p) ≡ page e xs p =
        ap (λ (z : ℕ). counts e z (bits s) (tree_at s p)) sums
        ∙ counts-tree e (page e xs p) (bits s) (tree_at s p) (length-page e xs p) tree-there in
        let starts : start_of s p ≡ start e xs p = ap (λ (z : List ℕ). start_of z p) same ∙ start_is e xs limits p inside in
        let befores = ap (λ (z : List ℕ). before_of z p) same ∙ before-is e xs limits p inside in
        let width : width_of s ≡ digits (sum xs) = ap width_of same ∙ width_is e xs limits in
        let at : code_at s ≡ code_start W (pages e (length xs)) = ap code_at same ∙ code_is e xs limits in
        let own : reserve e (sum_of s p) ≡ reserve e (sum (page e xs p)) = ap (reserve e) sums in
        let long : length s ≡ size W e (length xs) (length (code e xs)) = ap length same ∙ length-image e xs in
        let many = pages-few e (length xs) limits.e-low limits.hours in
        record {
          few = omega (arith, inside);
          e-high = limits.e-high;
          entry_in = omega (arith, inside);
          narrow = omega (arith, width-most (sum xs) limits.total);
          rises = omega (arith, roots, page-sum e xs p);
          sum-small = omega (arith, sums, page-le e xs p, limits.total);
          code-low = omega arith;
          end_low = omega (arith, start-within e xs p inside, code-most e xs limits);
          end-in = omega (arith, start-within e xs p inside);
          coded = ap (λ (z : ℕ). exact e z (bits s) (tree_at s p)) sums ∙ tree-exact e (page e xs p) (bits s) (tree_at s p) tree-there;
          head-low = omega arith;
          head-high = omega arith;
          few-each = ap (within max_count) read ∙ page-few max_count e p xs (accepted-only s a).counts;
          counts-are = read;
        }

-- a root's width, as the code works it out of the header
pub wide-as : {s : List ℕ} {h : Head} {w : ℕ} → HeadOf s h → w ≡ digits h.total → w ≡ width_of s
unfolding width_of
wide-as d q = q ∙ ap digits d.total-is

-- where the parts stand, as the code works it out of the header
pub places : {s : List ℕ} {h : Head} {w : ℕ} → HeadOf s h → w ≡ digits h.total → PlacesOf s h.table h.code w
places d q = record { entries-are = d.table_is; code_is = d.code_is; width_is = wide-as d q }

-- page 0 has no page before it, another one has
pub before-first : (s : List ℕ) (p : ℕ) → p ≡ 0 → 0 ≡ before_of s p
unfolding before_of
before-first s zero q = refl
before-first s (suc p) q = absurd (omega (arith, q))

pub before-next : (s : List ℕ) (p : ℕ) → 1 ≤ p → root_at s (p - 1) ≡ before_of s p
unfolding before_of
before-next s zero l = absurd (omega arith)
before-next s (suc p) l = ap (root_at s) {x = suc p - 1} {y = p} (omega arith)

-- its sum, by its root and the one before it
pub sum-read : (s : List ℕ) (p : ℕ) {r x : ℕ} → r ≡ root_at s p → x ≡ before_of s p → r - x ≡ sum_of s p
unfolding sum_of
sum-read s p er ex = ap₂ ◌-◌ er ex

-- what was worked out of it: its sum t, and where its tree starts
pub record Numbers (s : List ℕ) (e p t a : ℕ) : Type 0 where
  pub page : Page s p
  pub e-is : e ≡ e_of s
  pub sum_is : t ≡ sum_of s p
  pub tree_is : a ≡ tree_at s p

pub numbers : {s : List ℕ} {e p t a : ℕ} → accepted s ≡ true → e ≡ e_of s → p < page_count_of s → t ≡ sum_of s p → a ≡ tree_at s p → Numbers s e p t a
numbers {s} {p = p} a q l m t = record { page = accepted-page s a p l; e-is = q; sum_is = m; tree_is = t }

-- what decoding asks, and what it gives
module _ {s : List ℕ} {e p t a : ℕ} (n : Numbers s e p t a) where
  pub tree-lies : Lies s a e t
  unfolding tree_at
  tree-lies =
      let g = n.page in
      let own : reserve e t ≡ reserve (e_of s) (sum_of s p) = ap₂ reserve n.e-is n.sum_is in
      let at : a ≡ code_at s + start_of s p + width_of s = n.tree_is in
      record {
        height = omega (arith, g.e-high, n.e-is);
        total = omega (arith, n.sum_is, g.sum-small);
        long = omega (arith, g.entry_in, g.head-low);
        inside = omega (arith, g.end-in);
        small = omega (arith, g.end_low, g.code-low);
      }

  pub tree-coded : exact e t (bits s) a ≡ true
  tree-coded = ap₂ (λ (y z : ℕ). exact y z (bits s) a) n.e-is n.sum_is ∙ ap (exact (e_of s) (sum_of s p) (bits s)) n.tree_is ∙ n.page.coded

  pub counts-fit : within max_count (counts e t (bits s) a) ≡ true
  counts-fit =
      ap₂ (λ (y z : ℕ). within max_count (counts y z (bits s) a)) n.e-is n.sum_is
      ∙ ap (λ (z : ℕ). within max_count (counts (e_of s) (sum_of s p) (bits s) z)) n.tree_is ∙ n.page.few-each

  pub decoded : (f : ℕ) (o o₁ : List ℕ) → o₁ ≡ splice o f (counts e t (bits s) a) → o₁ ≡ splice o f (page (e_of s) (list_of s) p)
  decoded f o o₁ q =
      q ∙ ap (splice o f) (ap₂ (λ (y z : ℕ). counts y z (bits s) a) n.e-is n.sum_is
      ∙ ap (counts (e_of s) (sum_of s p) (bits s)) n.tree_is ∙ n.page.counts-are)

-- a page of 2^e counts has room in an array of 256
pub page-room : (s : List ℕ) → accepted s ≡ true → {e : ℕ} → e ≡ e_of s → 0 + 2 ^ e ≤ 256
page-room s a {e} q = omega (arith, pow_mono {i = e} {j = 8} (omega (arith, (accepted-only s a).limits.e-high)))
