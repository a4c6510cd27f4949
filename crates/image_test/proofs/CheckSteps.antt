-- The check of an image, step by step, over plain numbers. Assumes nothing.
use mathlib.Core.Path.{◌≡◌, refl, sym, ap, ap₂, ◌∙◌}
use mathlib.Core.Bool.{Bool, true, false, ◌&&◌, not}
use mathlib.Core.List.{List, [], ◌∷◌}
use Prim.Native.Nat.{ℕ, zero, suc, ◌+◌, ◌-◌, ◌*◌, ◌/◌, ◌≤◌, ◌<◌}
use native.Mathlib.Numerals.{add-one}
use native.Mathlib.Omega.{arith}
use native.Mathlib.Decide.{ℕ_discrete}
use lib.ListN.{length, get_or, take}
use lib.Dec.{leb, eqb}
use borrow.Author.Tests.{le-leb, lt-leb, eq-eqb, ltb-true, ne_eqb}
use Rattle.std.specs.Prelude.{Option, None, Some}
use Rattle.lists.specs.Counts.{max_count, within}
use Rattle.lists.proofs.CountLaws.{within-each}
use Rattle.lists.specs.Lists.{every, pick}
use Rattle.lists.proofs.Tests.{every-last, every-no, every_of}
use Rattle.bits.specs.Bits.{bits}
use Rattle.reserve.specs.Reserve.{digits, reserve}
use Rattle.tree.specs.Code.Node.{Lies}
use Rattle.tree_walk.specs.Code.Answers.{walk_answer as walked}
use Rattle.tree.specs.Code.Exact.{clear}
use Rattle.tree_lowest.specs.Code.Narrow.{narrow}
use Rattle.tree.specs.Read.{Found, damaged, found}
use Rattle.image.specs.Check.{accepted, check}
use Rattle.answers.specs.Image.{fails, Reply}
use Rattle.image_test.specs.Code.Test.{Passed, Stopped}
use Rattle.image.specs.Code.Head.{Opened}
use Rattle.image.specs.Code.Page.{RootAt, RootOf}
use Rattle.image.specs.Image.{bytes_for}
use Rattle.image.specs.Query.{look, passing, the_reading}
use Rattle.image.specs.Read.{code_at, e_of, l_of, list_of, n_of, page_count_of, root_at, s_of, start_of, width_of}
use Rattle.image_test.specs.Code.Test.{passes_test, pages_from, says, sum_at}
use Rattle.image.proofs.Accepted.{accepted-only}
use Rattle.image.proofs.DamageLaws.{beyond, within as not_beyond}
use Rattle.image.proofs.HeadLaws.{Bounds, bounds}
use Rattle.image_test.proofs.TestLaws.{test-is}
use Rattle.image.proofs.PageLaws.{reserve-most}
use Rattle.image.proofs.RootLaws.{root-small}
use Rattle.image_test.specs.declared.Tested.{Tested}
use Rattle.image.specs.declared.head.Head.{Head}
use Rattle.image.specs.declared.page.Root.{Root}

-- ---- the tests of a page
abbrev five : ℕ → List ℕ → ℕ → ℕ → ℕ → ℕ → List Bool
five most s k p a x =
    eqb (start_of s p) a
    ∷ leb x (root_at s p)
    ∷ not (passing s (a + width_of s) (reserve (e_of s) (root_at s p - x)))
    ∷ narrow most (e_of s) (root_at s p - x) (bits s) (code_at s + a + width_of s)
    ∷ pages_from most s k (suc p) (a + width_of s + reserve (e_of s) (root_at s p - x)) (root_at s p)
    ∷ []

-- one test that fails, the same whatever pages follow
tests-bad : {most : ℕ} {s : List ℕ} {p a x : ℕ} (i : ℕ) → ((k : ℕ) → get_or (five most s k p a x) i true ≡ false) → Stopped most s p a x
unfolding pages_from
tests-bad {most} {s} {p} {a} {x} i f = record { stops = λ k. every-no (five most s k p a x) i (f k) }

pages-yes : (most : ℕ) (s : List ℕ) (k p a x : ℕ) → start_of s p ≡ a → x ≤ root_at s p → a + width_of s + reserve (e_of s) (root_at s p - x) ≤ l_of s
    → narrow most (e_of s) (root_at s p - x) (bits s) (code_at s + a + width_of s) ≡ true
    → pages_from most s (suc k) p a x ≡ pages_from most s k (suc p) (a + width_of s + reserve (e_of s) (root_at s p - x)) (root_at s p)
unfolding pages_from every
pages-yes most s k p a x f g h t =
    every-last (take 4 (five most s k p a x)) _ (every_of (take 4 (five most s k p a x)) (
      eq-eqb (start_of s p) a f,
      (le-leb x (root_at s p) g, (not_beyond (a + width_of s + reserve (e_of s) (root_at s p - x)) (l_of s) h, (t, tt))),
    ))

-- the root passes L: it stands elsewhere, or the tree passes L too
pub root-passes : {most : ℕ} {s : List ℕ} {p a x : ℕ} → RootAt s p None → Stopped most s p a x
root-passes {most} {s} {p} {a} {x} e = go (ℕ_discrete (start_of s p) a)
  where
    go : Dec (start_of s p ≡ a) → Stopped most s p a x
    go (yes q) =
        tests-bad 2 (λ _. beyond (a + width_of s + reserve (e_of s) (root_at s p - x)) (l_of s)
        (omega (arith, q, ltb-true (l_of s) (start_of s p + width_of s) e)))
    go (no q) = tests-bad 0 (λ _. ne_eqb (start_of s p) a q)

-- page p's root t was read
pub record Own (s : List ℕ) (h : Head) (p : ℕ) (t : Root) : Type 0 where
  pub opened : Opened s h
  pub root : RootOf s p t

module _ {s : List ℕ} {h : Head} {p : ℕ} {t : Root} (g : Own s h p t) where
  abbrev f : Bounds s h
  f = bounds s h g.opened

  own : t.value ≡ root_at s p
  own = g.root.value-is

  pub own-small : t.value < 1099511627776
  own-small = omega (arith, own, root-small s p f.narrow)

  pub own-within : t.end ≤ h.bits
  own-within = omega (arith, g.root.end-le, g.opened.head.bits_is)

  pub elsewhere : {most a x w : ℕ} → w ≡ digits h.total → (t.end ≡ a + w → ⊥) → Stopped most s p a x
  elsewhere {most} {a} e k = tests-bad 0 (λ _. ne_eqb (start_of s p) a (λ q. k (omega (arith, q, e, f.width, g.root.end_is))))

  pub falls : {most a x : ℕ} → t.value < x → Stopped most s p a x
  falls {most} {a} {x} l = tests-bad 1 (λ _. lt-leb x (root_at s p) (omega (arith, own)))

-- it stands where it is to, behind bit a; its tree has v bits, the root before it being x
pub record Standing (s : List ℕ) (h : Head) (p : ℕ) (t : Root) (a x v : ℕ) : Type 0 where
  pub own_root : Own s h p t
  pub end-at : t.end ≡ a + digits h.total
  pub tree-bits : v ≡ reserve h.e (t.value - x)

module _ {s : List ℕ} {h : Head} {p : ℕ} {t : Root} {a x v : ℕ} (g : Standing s h p t a x v) where
  abbrev o : Opened s h
  o = g.own_root.opened

  value-is : t.value ≡ root_at s p
  value-is = own g.own_root

  end_is : t.end ≡ a + width_of s
  end_is = omega (arith, g.end-at, (bounds s h o).width)

  start_is : start_of s p ≡ a
  start_is = omega (arith, end_is, g.own_root.root.end_is)

  reserve-is : v ≡ reserve (e_of s) (root_at s p - x)
  reserve-is = g.tree-bits ∙ ap₂ (λ (z y : ℕ). reserve z (y - x)) o.head.e-is value-is

  pub end-small : t.end + v ≤ 4294976255
  end-small =
      let most = reserve-most h.e (t.value - x) (bounds s h o).e-high (omega (arith, own-small g.own_root)) in
      omega (arith, own-within g.own_root, o.head.bits_small, g.tree-bits)

  pub tree_over : {most : ℕ} → h.bits < t.end + v → Stopped most s p a x
  tree_over l =
      tests-bad 2 (λ _. beyond (a + width_of s + reserve (e_of s) (root_at s p - x)) (l_of s) (omega (arith, end_is, reserve-is, o.head.bits_is)))

  at-is : h.code + t.end ≡ code_at s + a + width_of s
  at-is = omega (arith, o.head.code_is, end_is)

  narrow-is : (most : ℕ)
      → narrow most h.e (t.value - x) (bits s) (h.code + t.end) ≡ narrow most (e_of s) (root_at s p - x) (bits s) (code_at s + a + width_of s)
  narrow-is most = λ i. narrow most (o.head.e-is i) (value-is i - x) (bits s) (at-is i)

  pub tree-lies : t.end + v ≤ h.bits → Lies s (h.code + t.end) h.e (t.value - x)
  tree-lies l =
      let f = bounds s h o in
      let ev = g.tree-bits in
      record {
        height = f.e-high;
        total = omega (arith, own-small g.own_root);
        long = omega (arith, f.long, f.head-low);
        inside = omega (arith, ev, o.head.code_is, f.code-at, f.long);
        small = omega (arith, ev, o.head.code_is, f.code-at, f.few, f.head-high, o.head.bits_small);
      }

  pub inexact : {most : ℕ} → narrow most h.e (t.value - x) (bits s) (h.code + t.end) ≡ false → Stopped most s p a x
  inexact {most} e = tests-bad 3 (λ _. sym (narrow-is most) ∙ e)

  pub page-passes : (most : ℕ) → x ≤ t.value → t.end + v ≤ h.bits → narrow most h.e (t.value - x) (bits s) (h.code + t.end) ≡ true
      → Passed most s p a x (record { end = t.end + v; root = t.value })
  page-passes most l m e =
      let q : t.end + v ≡ a + width_of s + reserve (e_of s) (root_at s p - x) = omega (arith, end_is, reserve-is) in
      record {
        goes_on =
            λ k. pages-yes most s k p a x start_is (omega (arith, value-is)) (omega (arith, q, o.head.bits_is)) (sym (narrow-is most) ∙ e)
            ∙ sym (ap₂ (pages_from most s k (suc p)) q value-is);
        end-le = omega (arith, o.head.bits_is);
      }

-- ---- the pages in turn
left_over : (n p : ℕ) → p < n → n - p ≡ suc (n - (p + 1))
left_over n p l = omega arith

pub pages-stop : {most : ℕ} {s : List ℕ} {p a x : ℕ} → Stopped most s p a x → (n : ℕ) → p < n → pages_from most s (n - p) p a x ≡ false
pages-stop {most} {s} {p} {a} {x} t n l = ap (λ (k : ℕ). pages_from most s k p a x) (left_over n p l) ∙ t.stops (n - (p + 1))

pub pages-on : {most : ℕ} {s : List ℕ} {p a x : ℕ} {r : Tested} → Passed most s p a x r → (n : ℕ) → p < n
    → pages_from most s (n - p) p a x ≡ pages_from most s (n - (p + 1)) (p + 1) r.end r.root
pages-on {most} {s} {p} {a} {x} {r} t n l =
    ap (λ (k : ℕ). pages_from most s k p a x) (left_over n p l) ∙ t.goes_on (n - (p + 1))
    ∙ ap (λ (k : ℕ). pages_from most s (n - (p + 1)) k r.end r.root) (sym (add-one p))

module _ (most : ℕ) (s : List ℕ) (h : Head) (o : Opened s h) (n p a x : ℕ) (l : n ≤ p) where
  done : pages_from most s (n - p) p a x ≡ (eqb a (l_of s) && eqb x (s_of s))
  unfolding pages_from
  done = ap (λ (k : ℕ). pages_from most s k p a x) {x = n - p} {y = 0} (omega arith)

  pub pages-short : (a ≡ h.bits → ⊥) → pages_from most s (n - p) p a x ≡ false
  pages-short e = done ∙ rw (ne_eqb a (l_of s) (λ q. e (q ∙ sym o.head.bits_is)))

  pub pages-done : a ≡ h.bits → eqb x h.total ≡ pages_from most s (n - p) p a x
  pages-done e = ap (eqb x) o.head.total-is ∙ sym (done ∙ rw (eq-eqb a (l_of s) (e ∙ o.head.bits_is)))

-- ---- the hours from N on
eqb_swap : (a b : ℕ) → eqb a b ≡ eqb b a
eqb_swap a b = go (ℕ_discrete a b)
  where
    go : Dec (a ≡ b) → eqb a b ≡ eqb b a
    go (yes e) = eq-eqb a b e ∙ sym (eq-eqb b a (sym e))
    go (no e) = ne_eqb a b e ∙ sym (ne_eqb b a (λ q. e (sym q)))

pub rest-none : (s : List ℕ) (h : Head) → Opened s h → h.hours ≡ 0 → eqb h.total 0 ≡ says (sum_at s (n_of s)) (s_of s)
unfolding sum_at says
rest-none s h o e =
    ap (λ (z : ℕ). eqb z 0) o.head.total-is ∙ eqb_swap (s_of s) 0
    ∙ ap (λ (z : ℕ). says (sum_at s z) (s_of s)) {x = 0} {y = n_of s} (sym e ∙ o.head.hours-is)

-- what a test of the way's answer says: none has no reading, and fails it
says-told : (f : Found) (t : ℕ) {way : Option ℕ} {r : Bool} → way ≡ walked 0 1 f → (way ≡ None → r ≡ false)
    → ((n : ℕ) → way ≡ Some n → r ≡ eqb n t) → r ≡ says (the_reading f) t
unfolding walked the_reading says
says-told damaged t e none some = none e
says-told (found x c) t e none some = some (x + c) (e ∙ ap Some {x = 0 + 1 * x + c} {y = x + c} (omega arith))

pub rest_some : (s : List ℕ) (h : Head) → Opened s h → {way : Option ℕ} {r : Bool} → (h.hours ≡ 0 → ⊥) → way ≡ walked 0 1 (look s (h.hours - 1))
    → (way ≡ None → r ≡ false) → ((n : ℕ) → way ≡ Some n → r ≡ eqb n h.total) → r ≡ says (sum_at s (n_of s)) (s_of s)
unfolding sum_at
rest_some s h o n e none some =
    says-told (look s (h.hours - 1)) (s_of s) e none (λ x q. some x q ∙ ap (eqb x) o.head.total-is)
    ∙ ap (λ (z : Reply). says z (s_of s)) (last h.hours (n_of s) n o.head.hours-is)
  where
    last : (k n : ℕ) → (k ≡ 0 → ⊥) → k ≡ n → the_reading (look s (k - 1)) ≡ sum_at s n
    last k zero n e = absurd (n e)
    last k (suc m) n e = ap (λ (z : ℕ). the_reading (look s z)) {x = k - 1} {y = m} (omega (arith, e))

-- ---- the last byte's other bits
pub fill_is : (s : List ℕ) (h : Head) → Opened s h
    → clear (bits s) (h.code + h.bits) (8 * length s - (h.code + h.bits)) ≡ clear (bits s) (code_at s + l_of s) (8 * bytes_for (l_of s) - l_of s)
unfolding bytes_for
fill_is s h o =
    let f = bounds s h o in
    let a : h.code + h.bits ≡ code_at s + l_of s = omega (arith, o.head.code_is, o.head.bits_is) in
    let b : 8 * length s ≡ code_at s + 8 * ((l_of s + 7) / 8) =
    omega (arith, f.long, f.code-at, ap (λ (z : ℕ). (z + 7) / 8) o.head.bits_is) in
    ap₂ (clear (bits s)) a (omega (arith, a, b))

-- ---- the answer
module _ {most : ℕ} (few : most ≤ max_count) {s : List ℕ} {h : Head} (o : Opened s h) (bytes : (i : ℕ) → get_or s i 0 < 256) where
  abbrev three : List Bool
  three =
      pages_from most s (page_count_of s) 0 0 0
      ∷ says (sum_at s (n_of s)) (s_of s)
      ∷ clear (bits s) (code_at s + l_of s) (8 * bytes_for (l_of s) - l_of s)
      ∷ []

  accepts : every three ≡ (accepted s && within most (list_of s))
  unfolding passes_test
  accepts = sym (ap (λ (z : Bool). z && every three) o.passed) ∙ test-is most few s bytes

  pub test-fails : (i : ℕ) → get_or three i true ≡ false → false ≡ (accepted s && within most (list_of s))
  test-fails i e = sym (sym accepts ∙ every-no three i e)

  pub test-last : pages_from most s (page_count_of s) 0 0 0 ≡ true → says (sum_at s (n_of s)) (s_of s) ≡ true
      → clear (bits s) (code_at s + l_of s) (8 * bytes_for (l_of s) - l_of s) ≡ (accepted s && within most (list_of s))
  unfolding every
  test-last a b = sym (every-last (take 2 three) _ (every_of (take 2 three) (a, (b, tt)))) ∙ accepts

-- no count of an accepted image is above the widest, so this limit turns none down
whole : (s : List ℕ) → (accepted s && within max_count (list_of s)) ≡ accepted s
whole s = go (accepted s) refl
  where
    go : (t : Bool) → accepted s ≡ t → (t && within max_count (list_of s)) ≡ t
    go true e = within-each max_count (list_of s) (accepted-only s e).counts
    go false e = refl

pub check-6 : {s : List ℕ} {h : Head} → Opened s h → (accepted s && within max_count (list_of s)) ≡ false → check s ≡ fails 6
unfolding check pick
check-6 {s} o e = rw (o.passed, sym (whole s) ∙ e)
