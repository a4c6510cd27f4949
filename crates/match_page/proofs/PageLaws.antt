-- The page at the front, in the numbers that the code has. Assumes nothing.
use mathlib.Core.Bool.{true}
use mathlib.Core.List.{List}
use mathlib.Core.Path.{◌≡◌, refl, ap, sym, ◌∙◌}
use Prim.Native.Nat.{ℕ, suc, ◌+◌, ◌-◌, ◌*◌, ◌/◌, ◌%◌, ◌^◌, ◌≤◌, ◌<◌}
use native.Mathlib.Nat.{add-mod_right, zero-mod, mul-div_right, mul-le-mul_left, mul-le-mul_right, mul-mod_right, mul-suc}
use native.Mathlib.Decide.{dec_le}
use native.Mathlib.Omega.{arith}
use lib.ListN.{length, take}
use lib.Pow.{pow_pos, shl_exact}
use lib.Seq.{take_all}
use Rattle.lists.specs.Lists.{part, reading, sum}
use Rattle.lists.proofs.Sums.{sum-take-le}
use Rattle.image.specs.Check.{accepted}
use Rattle.image.specs.Code.Head.{HeadOf}
use Rattle.image.specs.Image.{root}
use Rattle.image.specs.Read.{e_of, list_of, n_of, page_count_of, sum_of}
use Rattle.image.specs.declared.head.Head.{Head}
use Rattle.image.proofs.Accepted.{accepted-only}
use Rattle.image.proofs.PageLaws.{hour-low, hour-split, pages-cover, pages-tight}
use Rattle.image_cursor.specs.Code.Cursor.{Ahead, Ready}
use Rattle.image_page.proofs.AcceptedPage.{sum-above}
use Rattle.image_cursor.proofs.CursorLaws.{counts-ahead, hours, page-in, small}
use Rattle.runs.specs.Runs.{run_sum}
use Rattle.runs.proofs.PrefixSums.{reading-grows, run-reading}
use Rattle.match_page.specs.Code.Page.{FrontPageOf, RunOf}
use Rattle.match_page.specs.declared.FrontPage.{FrontPage}

module _ (s : List ℕ) (a : accepted s ≡ true) {h : Head} (o : HeadOf s h) where
  -- no hours have more coins than all
  pub coins-small : (k : ℕ) → reading (list_of s) k ≤ 1099511627775
  coins-small k = omega (arith, sum-take-le k (list_of s), (accepted-only s a).limits.total)

  -- the sum of a page is that of some hours
  pub page-small : (page : FrontPage) → RunOf (list_of s) page → page.sum ≤ 1099511627775
  page-small page g =
      omega (arith, run-reading (list_of s) page.first page.hours, g.sum_is, coins-small (page.first + page.hours))

  pub counts-small : (page : FrontPage) (counts : List ℕ) → RunOf (list_of s) page → counts ≡ part (list_of s) page.first page.hours
      → sum counts ≤ 1099511627775
  counts-small page counts g f = omega (arith, page-small page g, g.sum_is, ap sum f)

  -- the root of an hour's page
  root-reading : (first r : ℕ) → r ≡ root (e_of s) (list_of s) (first / 2 ^ h.e) → r ≡ reading (list_of s) (2 ^ h.e * suc (first / 2 ^ h.e))
  unfolding root
  root-reading first r e = e ∙ ap (λ (y : ℕ). root y (list_of s) (first / 2 ^ h.e)) (sym o.e-is)

  pub root-above : (first r b : ℕ) → r ≡ root (e_of s) (list_of s) (first / 2 ^ h.e) → b ≡ reading (list_of s) first → b ≤ r
  root-above first r b e f =
      let p : ℕ = first / 2 ^ h.e in
      let g : first ≤ 2 ^ h.e * suc p = omega (arith, hour-split h.e first, hour-low h.e first, mul-suc (2 ^ h.e) p) in
      omega (arith, root-reading first r e, reading-grows (list_of s) first (2 ^ h.e * suc p) g)

  -- ---- the page from an hour on, where pages meet
  module _ (first n : ℕ) (l : first < h.hours) (z : first % 2 ^ h.e ≡ 0) (d : Ahead h first n) where
    abbrev p : ℕ
    p = first / 2 ^ h.e

    starts : 2 ^ h.e * p ≡ first
    starts = omega (arith, hour-split h.e first)

    -- behind its last hour that is logged zeros alone are in the page
    ends : reading (list_of s) (2 ^ h.e * suc p) ≡ reading (list_of s) (first + n)
    ends = go (dec_le h.hours (first + n))
      where
        next : 2 ^ h.e * suc p ≡ first + 2 ^ h.e
        next = omega (arith, mul-suc (2 ^ h.e) p, starts)

        go : Dec (h.hours ≤ first + n) → reading (list_of s) (2 ^ h.e * suc p) ≡ reading (list_of s) (first + n)
        go (yes m) =
            ap sum
            (take_all (2 ^ h.e * suc p) (list_of s) (omega (arith, next, hours s o, d.inside, d.room))
            ∙ sym (take_all (first + n) (list_of s) (omega (arith, hours s o))))
        go (no m) =
            let f : 2 ^ h.e * suc p ≡ first + n = omega (arith, next, z, d.whole (omega arith)) in
            ap (reading (list_of s)) f

    -- its root, and the coins before it
    module _ (r b : ℕ) (e : r ≡ root (e_of s) (list_of s) p) (f : b ≡ reading (list_of s) first) where
      above : r ≡ b + run_sum (list_of s) first n
      above = omega (arith, root-reading first r e, ends, run-reading (list_of s) first n)

      sum_is : r - b ≡ sum_of s p
      sum_is =
          let g : 2 ^ e_of s * p ≡ first = ap (λ (z : ℕ). 2 ^ z * p) (sym o.e-is) ∙ starts in
          omega (arith, e, f, sum-above s a p (page-in s o first l), ap (λ (z : ℕ). sum (take z (list_of s))) g)

      pub front-page-is : (stamp : ℕ) → FrontPageOf s h (record { first = first; hours = n; sum = r - b; stamp = stamp })
      front-page-is stamp = record {
        logged = l;
        meets = z;
        whole = d;
        run_is = record { inside = omega (arith, d.inside, hours s o); sum_is = omega (arith, above) };
        sum-of = sum_is;
      }

  -- ---- page p, from hour 2^e p on
  pub page-start : (p : ℕ) → p < h.pages → 2 ^ h.e * p < h.hours
  unfolding page_count_of
  page-start p l = omega (arith, o.hours-is, ap (λ (z : ℕ). 2 ^ z * p) o.e-is, pages-tight (e_of s) (n_of s) p (omega (arith, o.pages-are)))

  -- behind all pages no hour is left
  pub pages-all : (p : ℕ) → h.pages ≤ p → length (list_of s) ≤ 2 ^ h.e * p
  unfolding page_count_of
  pages-all p l =
      let u : page_count_of s ≤ p = omega (arith, o.pages-are) in
      let v : n_of s ≤ 2 ^ e_of s * page_count_of s = pages-cover (e_of s) (n_of s) in
      omega (arith, hours s o, o.hours-is, v, mul-le-mul_left (2 ^ e_of s) u, ap (λ (z : ℕ). 2 ^ z * p) o.e-is)

  -- as the code shifts it
  pub page-shifted : (p : ℕ) → p < h.pages → (p * 2 ^ h.e) % 2 ^ 64 ≡ 2 ^ h.e * p
  page-shifted p l =
      let b : p < 2 ^ 32 = omega (arith, page-start p l, o.hours-small, mul-le-mul_right p (pow_pos h.e)) in
      shl_exact 32 h.e 64 b (omega (arith, small s o a)) ∙ omega arith

  pub page-meets : (p first : ℕ) → first ≡ 2 ^ h.e * p → first % 2 ^ h.e ≡ 0
  page-meets p first e = ap (λ (z : ℕ). z % 2 ^ h.e) e ∙ mul-mod_right (2 ^ h.e) p

  -- the coins before the next page are those before the hour behind its last
  pub page-end : (p first n : ℕ) → p < h.pages → first ≡ 2 ^ h.e * p → Ahead h first n
      → reading (list_of s) (first + n) ≡ reading (list_of s) (2 ^ h.e * (p + 1))
  page-end p first n l e d =
      let q : first / 2 ^ h.e ≡ p = ap (λ (z : ℕ). z / 2 ^ h.e) e ∙ mul-div_right p (pow_pos h.e) in
      sym (ends first n (omega (arith, page-start p l, e)) (page-meets p first e) d)
      ∙ ap (λ (z : ℕ). reading (list_of s) (2 ^ h.e * z)) {x = suc (first / 2 ^ h.e)} {y = p + 1} (omega (arith, q))

  -- its counts read
  pub held : (page : FrontPage) (counts : List ℕ) → FrontPageOf s h page → Ready s page.first counts
      → take page.hours counts ≡ part (list_of s) page.first page.hours
  held page counts g r = counts-ahead s o a page.first page.hours 0 counts (sym g.meets) g.whole r

-- ---- the coins before a page
pub coins-first : (xs : List ℕ) → 0 ≡ reading xs 0
unfolding sum
coins-first xs = refl

pub coins-next : (xs : List ℕ) (page : FrontPage) (first b : ℕ) → page.first ≡ first → RunOf xs page → b ≡ reading xs first
    → b + page.sum ≡ reading xs (first + page.hours)
coins-next xs page first b q g e =
    let f = ap (λ (z : ℕ). reading xs (z + page.hours)) q in
    omega (arith, f, e, ap (reading xs) q, run-reading xs page.first page.hours, g.sum_is)

-- ---- where pages meet, or the list ends
pub record Border (h : Head) (first : ℕ) : Type 0 where
  pub inside : first ≤ h.hours
  pub meets : first < h.hours → first % 2 ^ h.e ≡ 0

pub border-first : (h : Head) → Border h 0
border-first h = record { inside = omega arith; meets = λ l. zero-mod (2 ^ h.e) }

pub border-next : (s : List ℕ) (h : Head) (first : ℕ) (page : FrontPage) → page.first ≡ first → FrontPageOf s h page → Border h (first + page.hours)
border-next s h first page q g = record {
  inside = omega (arith, g.whole.inside);
  meets = λ (m : first + page.hours < h.hours).
      let e : page.hours ≡ 2 ^ h.e = omega (arith, g.whole.whole (omega arith), g.meets) in
      ap (λ (z : ℕ). (first + z) % 2 ^ h.e) e ∙ add-mod_right first (2 ^ h.e) ∙ ap (λ (z : ℕ). z % 2 ^ h.e) (sym q) ∙ g.meets;
}
