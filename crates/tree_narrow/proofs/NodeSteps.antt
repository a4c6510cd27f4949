-- A node of a tree with a limit for its counts, as the code reads it. Assumes nothing.
use mathlib.Core.Path.{◌≡◌, refl, sym, ap, ap₂, ◌∙◌}
use mathlib.Core.Bool.{Bool, true, false, ◌&&◌, and-false, and-true}
use mathlib.Core.List.{List}
use Prim.Native.Nat.{ℕ, suc, ◌+◌, ◌-◌, ◌≤◌, ◌<◌}
use native.Mathlib.Numerals.{add-one}
use native.Mathlib.Omega.{arith}
use Rattle.std.specs.Prelude.{None, Some}
use lib.Dec.{leb}
use borrow.Author.Tests.{le-leb, lt-leb}
use Rattle.lists.specs.Counts.{within}
use Rattle.lists.proofs.CountLaws.{within-append}
use Rattle.lists.specs.Lists.{every}
use Rattle.bits.specs.Bits.{bits}
use Rattle.bits.proofs.Laws.{length-bits}
use Rattle.bits.proofs.Packing.{bits-bytes}
use Rattle.reserve.specs.Reserve.{digits, reserve}
use Rattle.tree.specs.Read.{counts, left_at, left_of, right_at}
use Rattle.tree.specs.Code.Exact.{clear, exact, spare_at, spare_len}
use Rattle.tree.specs.Code.Node.{Lies}
use Rattle.tree.proofs.Rooting.{Halves as Below, halves, top}
use Rattle.tree_check.proofs.CheckSteps.{not-zero}
use Rattle.tree_lowest.specs.Code.Narrow.{narrow}
use Rattle.tree_lowest.proofs.NarrowLaws.{narrow-few}
use Rattle.tree_narrow.specs.Code.Halves.{Halved, HalvesOf, sound}
use Rattle.tree_narrow.specs.declared.Halves.{Halves}

-- ---- what a node's halves decide
module _ (w h s : ℕ) (b : List ℕ) (a l : ℕ) (e : left_of s b a ≡ l) where
  -- the node's own test
  abbrev own-test : Bool
  own-test = leb l s && clear b (spare_at h s l a) (spare_len h s l)

  regroup : (t x y z p q : Bool) → ((t && (x && (y && (z && true)))) && (p && q)) ≡ ((t && z) && ((x && p) && (y && q)))
  regroup false x y z p q = refl
  regroup true false y z p q = sym (and-false z)
  regroup true true false z p q = sym (ap (λ (k : Bool). z && k) (and-false p) ∙ and-false z)
  regroup true true true true p q = refl
  regroup true true true false p q = refl

  pub narrow-node : narrow w (suc h) s b a ≡ (own-test && (narrow w h l b (left_at s a) && narrow w h (s - l) b (right_at h s l a)))
  unfolding narrow exact counts every
  narrow-node =
      rw (e, within-append w (counts h l b (left_at s a)) (counts h (s - l) b (right_at h s l a)))
      (regroup (leb l s) (exact h l b (left_at s a)) (exact h (s - l) b (right_at h s l a)) (clear b (spare_at h s l a) (spare_len h s l))
      (within w (counts h l b (left_at s a))) (within w (counts h (s - l) b (right_at h s l a))))

-- ---- a node as `halve` reads it, of height h + 1
pub read_above : (b : List ℕ) (a h s : ℕ) {l : ℕ} → l ≡ left_of s b a → s < l → Halved b a h s None
read_above b a h s el k = rw (lt-leb (left_of s b a) s (omega (arith, el)))

-- its sum has t digits; its left sum l is at most s, and its halves own u and v bits
module _ (a h l : ℕ) {s t d u v : ℕ} (et : t ≡ digits s) (o : (l ≤ s) × (d ≡ s - l)) (eu : u ≡ reserve h l) (right : v ≡ reserve h d) where
  le : l ≤ s
  le = o.0

  ev : v ≡ reserve h (s - l)
  ev = right ∙ ap (reserve h) o.1

  -- the left-over bits start no later than the tree ends
  pub spare-in : {b : List ℕ} {r : ℕ} → Lies b a (h + 1) s × (r ≡ reserve (h + 1) s) → a + t + u + v ≤ a + r
  spare-in p = omega (arith, et, eu, ev, p.1, (halves l p.0 o.0).spare)

  module _ (b : List ℕ) (r : ℕ) (z : Bool) (el : l ≡ left_of s b a) (er : r ≡ reserve (h + 1) s)
      (ez : z ≡ clear b (a + t + u + v) (a + r - (a + t + u + v))) where
    own-bits : sound b a h s ≡ z
    own-bits =
        let k : reserve (suc h) s ≡ r = ap (λ (j : ℕ). reserve j s) (sym (add-one h)) ∙ sym er in
        let x : a + t + u + v ≡ spare_at h s l a = omega (arith, et, eu, ev) in
        let y : a + r - (a + t + u + v) ≡ spare_len h s l = omega (arith, et, eu, ev, k) in
        sym (ez ∙ ap₂ (clear b) x y ∙ sym (ap (λ (j : Bool). j && clear b (spare_at h s l a) (spare_len h s l)) (le-leb l s le))
        ∙ ap (λ (j : ℕ). leb j s && clear b (spare_at h s j a) (spare_len h s j)) el)

    pub read_damaged : z ≡ false → Halved b a h s None
    read_damaged e = own-bits ∙ e

    pub read_whole : z ≡ true → Halved b a h s (Some (record { left = l; first = a + t; own = u; second = a + t + u; rest = v }))
    read_whole e =
        record {
          is_sound = own-bits ∙ e;
          left_is = el;
          left_le = le;
          first-is = ap (λ (j : ℕ). a + j) et;
          own_is = eu;
          second_is = omega (arith, et, eu);
          rest-is = ev;
        }

-- ---- the recursion's node, of height h: those below it have height h - 1
pub exact-few : {b : List ℕ} {a h s : ℕ} (w : ℕ) → Lies b a h s → s ≤ w → exact h s (bits b) a ≡ narrow w h s (bits b) a
exact-few {b} {a} {h} {s} w y l = narrow-few w h s (bits b) a (bits-bytes b) (omega (arith, y.inside, length-bits b)) l

-- one count
pub leaf-narrow : (w h s : ℕ) (b : List ℕ) (a : ℕ) → h ≡ 0 → leb s w ≡ narrow w h s b a
unfolding narrow exact counts within every
leaf-narrow w h s b a e = sym (ap (λ (k : ℕ). narrow w k s b a) e ∙ and-true (leb s w))

pub top-reserve : (h s : ℕ) {r : ℕ} → 2 ≤ h → r ≡ reserve h s → r ≡ reserve (h - 1 + 1) s
top-reserve h s tall e = e ∙ ap (λ (k : ℕ). reserve k s) {x = h} {y = h - 1 + 1} (omega (arith, tall))

module _ (b : List ℕ) (a h s w : ℕ) (tall : 2 ≤ h) where
  up : suc (h - 1) ≡ h
  up = omega (arith, tall)

  node : (ok : Bool) → sound b a (h - 1) s ≡ ok
      → narrow w h s b a ≡ (ok && (narrow w (h - 1) (left_of s b a) b (left_at s a) && narrow w (h - 1) (s - left_of s b a) b (right_at (h - 1) s (left_of s b a) a)))
  node ok e =
      ap (λ (k : ℕ). narrow w k s b a) (sym up) ∙ narrow-node w (h - 1) s b a (left_of s b a) refl
      ∙ ap (λ (t : Bool). t && (narrow w (h - 1) (left_of s b a) b (left_at s a) && narrow w (h - 1) (s - left_of s b a) b (right_at (h - 1) s (left_of s b a) a))) e

  pub node-not : Halved b a (h - 1) s None → false ≡ narrow w h s b a
  node-not e = sym (node false e)

  module _ {n : Halves} (i : HalvesOf b a (h - 1) s n) where
    both_halves : narrow w h s b a ≡ (narrow w (h - 1) n.left b n.first && narrow w (h - 1) (s - n.left) b n.second)
    both_halves = node true i.is_sound ∙ sym (rw (i.second_is, i.first-is, i.left_is))

    pub left_not : narrow w (h - 1) n.left b n.first ≡ false → false ≡ narrow w h s b a
    left_not e = sym (both_halves ∙ rw e)

    pub node-last : narrow w (h - 1) n.left b n.first ≡ true → narrow w (h - 1) (s - n.left) b n.second ≡ narrow w h s b a
    node-last e = sym (both_halves ∙ rw e)

module _ {b : List ℕ} {a h s : ℕ} {n : Halves} (tall : 2 ≤ h) (y : Lies b a h s) (i : HalvesOf (bits b) a (h - 1) s n) where
  below : Below b a (h - 1) s n.left
  below = halves n.left (top (not-zero tall) y) i.left_le

  pub left-lies : Lies b n.first (h - 1) n.left
  left-lies = rw i.first-is below.left

  pub right-lies : Lies b n.second (h - 1) (s - n.left)
  right-lies = rw i.second_is below.right
