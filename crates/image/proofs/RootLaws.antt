-- A page's roots and tests, over plain numbers. Assumes nothing.
use mathlib.Core.Path.{◌≡◌, refl, ap, ap₂, ◌∙◌}
use mathlib.Core.Bool.{true, false, not}
use mathlib.Core.List.{List}
use Prim.Native.Nat.{ℕ, zero, suc, ◌+◌, ◌-◌, ◌≤◌, ◌<◌}
use native.Mathlib.Omega.{arith}
use lib.ListN.{get_or, length, take, drop, length-take}
use lib.Pow.{pow_mono}
use lib.Dec.{ltb}
use borrow.Author.Tests.{lt-ltb, le-ltb}
use Rattle.std.specs.Prelude.{Some, None}
use Rattle.lists.specs.Lists.{part}
use Rattle.lists.proofs.Tests.{every-no, every_of}
use Rattle.bits.specs.Bits.{bits, value}
use Rattle.bits.specs.Numbers.{number_at}
use Rattle.bits.proofs.Packing.{Bits, bits-bytes, bits-drop, bits-take, value-lt}
use Rattle.reserve.specs.Reserve.{digits, reserve}
use Rattle.image.specs.Code.Head.{Opened}
use Rattle.image.specs.Code.Page.{BeforeAt, PageOf, RootAt, RootOf}
use Rattle.image.specs.Image.{table_at}
use Rattle.image.specs.Query.{before_passing, page_fine, page_tests, passing}
use Rattle.image.specs.Read.{before_of, code_at, e_of, l_of, root_at, s_of, start_of, sum_of, tree_at, wide_of, width_of}
use Rattle.image.proofs.DamageLaws.{beyond, within}
use Rattle.image.proofs.HeadLaws.{bounds}
use Rattle.image.proofs.PageLaws.{reserve-most}
use Rattle.image.specs.declared.head.Head.{Head}
use Rattle.image.specs.declared.page.Root.{Root}

-- ---- a root
module _ (s : List ℕ) (h : Head) (o : Opened s h) (p a w : ℕ) (ea : a ≡ number_at s (table_at (wide_of s) p) 4) (ew : w ≡ digits h.total) where
  width : w ≡ width_of s
  width = ew ∙ (bounds s h o).width

  pub root-bad : {z : ℕ} → z ≡ a + w → h.bits < z → RootAt s p None
  unfolding start_of
  root-bad ez l = lt-ltb (l_of s) (start_of s p + width_of s) (omega (arith, width, o.head.bits_is))

  pub root-good : {v z : ℕ} → z ≡ a + w → z ≤ h.bits → v ≡ value (take w (drop (h.code + a) (bits s)))
      → RootOf s p (record { value = v; end = z })
  unfolding start_of root_at
  root-good ez l e = record {
    inside = le-ltb (l_of s) (start_of s p + width_of s) (omega (arith, width, o.head.bits_is));
    value-is = e ∙ ap₂ (λ (x y : ℕ). value (part (bits s) x y)) (ap₂ ◌+◌ o.head.code_is ea) width;
    end_is = ez ∙ ap₂ ◌+◌ ea width;
    end-le = omega (arith, width, o.head.bits_is);
  }

-- ---- the number of a few bits is small
pub root-small : (s : List ℕ) (p : ℕ) → width_of s ≤ 40 → root_at s p < 1099511627776
unfolding root_at
root-small s p l =
    let f : List ℕ = part (bits s) (code_at s + start_of s p) (width_of s) in
    let n : length f ≤ 40 = omega (arith, length-take (width_of s) (drop (code_at s + start_of s p) (bits s))) in
    let g : Bits f = bits-take (width_of s) _ (bits-drop (code_at s + start_of s p) (bits s) (bits-bytes s)) in
    omega (arith, value-lt f 0 g, pow_mono {i = length f} {j = 40} n)

-- ---- the root before
pub before-first : (s : List ℕ) (p : ℕ) → p ≡ 0 → (before_passing s p ≡ false) × (0 ≡ before_of s p)
unfolding before_passing before_of
before-first s zero e = (refl, refl)
before-first s (suc p) e = absurd (omega (arith, e))

pub before-next : (s : List ℕ) (p : ℕ) (r : Root) → 1 ≤ p → RootAt s (p - 1) (Some r) → BeforeAt s p (Some r.value)
unfolding before_passing before_of
before-next s zero r l m = absurd (omega arith)
before-next s (suc p) r l m =
    let n : RootOf s p r = let e : suc p - 1 ≡ p = omega arith in rw e at m in
    (n.inside, n.value-is)

pub before-bad : (s : List ℕ) (p : ℕ) → 1 ≤ p → RootAt s (p - 1) None → BeforeAt s p None
unfolding before_passing
before-bad s zero l m = absurd (omega arith)
before-bad s (suc p) l m = let e : suc p - 1 ≡ p = omega arith in rw e at m

-- ---- a page's tests
pub page-bad : (s : List ℕ) (p k : ℕ) → get_or (page_tests s p) k true ≡ false → page_fine s p ≡ false
unfolding page_fine
page-bad s p k f = every-no (page_tests s p) k f

-- past the reading of both roots: the page's own, t, and the number of the one before, x
pub record Roots (s : List ℕ) (h : Head) (p : ℕ) (t : Root) (x : ℕ) : Type 0 where
  pub opened : Opened s h
  pub own : RootOf s p t
  pub last : BeforeAt s p (Some x)

module _ {s : List ℕ} {h : Head} {p : ℕ} {t : Root} {x : ℕ} (g : Roots s h p t x) where
  abbrev o : Opened s h
  o = g.opened

  last : x ≡ before_of s p
  last = g.last.1

  pub own-within : t.end ≤ h.bits
  own-within = omega (arith, g.own.end-le, o.head.bits_is)

  pub above-total : h.total < t.value → not (ltb (s_of s) (root_at s p)) ≡ false
  above-total l = beyond (root_at s p) (s_of s) (omega (arith, g.own.value-is, o.head.total-is))

  pub below-before : t.value < x → not (ltb (root_at s p) (before_of s p)) ≡ false
  below-before l = beyond (before_of s p) (root_at s p) (omega (arith, g.own.value-is, last))

  -- its sum
  module _ {m : ℕ} (em : m ≡ t.value - x) where
    sums : m ≡ sum_of s p
    unfolding sum_of
    sums = em ∙ ap₂ ◌-◌ g.own.value-is last

    reserves : (v : ℕ) → v ≡ reserve h.e m → v ≡ reserve (e_of s) (sum_of s p)
    reserves v e = e ∙ ap₂ reserve o.head.e-is sums

    pub tree-most : t.value ≤ h.total → reserve h.e m ≤ 8960
    tree-most l = reserve-most h.e m (bounds s h o).e-high (omega (arith, o.head.total-small, em))

    pub tree-passes : {v : ℕ} → v ≡ reserve h.e m → h.bits < t.end + v
        → not (passing s (start_of s p + width_of s) (reserve (e_of s) (sum_of s p))) ≡ false
    tree-passes {v} e l =
        beyond (start_of s p + width_of s + reserve (e_of s) (sum_of s p)) (l_of s) (omega (arith, reserves v e, g.own.end_is, o.head.bits_is))

    pub page-good : {v : ℕ} → v ≡ reserve h.e m → t.value ≤ h.total → x ≤ t.value → t.end + v ≤ h.bits
        → PageOf s p (record { before = x; sum = m; at = h.code + t.end })
    unfolding page_fine tree_at
    page-good {v} ev l k n =
        let f = bounds s h o in
        let q = o.head in
        let r : v ≡ reserve (e_of s) m = ev ∙ ap (λ (k : ℕ). reserve k m) q.e-is in
        record {
          fine =
              every_of (page_tests s p) (
                ap not g.own.inside,
                (
                  ap not g.last.0,
                  (
                    within (root_at s p) (s_of s) (omega (arith, g.own.value-is, q.total-is)),
                    (
                      within (before_of s p) (s_of s) (omega (arith, g.own.value-is, last, q.total-is)),
                      (
                        within (before_of s p) (root_at s p) (omega (arith, g.own.value-is, last)),
                        (within (start_of s p + width_of s + reserve (e_of s) (sum_of s p)) (l_of s) (omega (arith, reserves v ev, g.own.end_is, q.bits_is)), tt),
                      ),
                    ),
                  ),
                ),
              );
          before-is = last;
          sum_is = sums;
          at-is = omega (arith, q.code_is, g.own.end_is);
          total = omega (arith, q.total-is, em);
          lies = record {
            height = omega (arith, f.e-high, q.e-is);
            total = omega (arith, q.total-small, em);
            long = omega (arith, f.long, f.head-low);
            inside = omega (arith, r, q.code_is, f.code-at, f.long);
            small = omega (arith, r, q.code_is, f.code-at, f.few, f.head-high, q.bits_small);
          };
        }
