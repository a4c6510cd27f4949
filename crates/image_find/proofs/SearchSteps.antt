-- Reach, step by step, over plain numbers. Assumes nothing.
use mathlib.Core.Path.{◌≡◌, refl, sym, ap, ap₂, ◌∙◌, subst}
use mathlib.Core.Bool.{Bool, true, false, not}
use mathlib.Core.List.{List}
use Prim.Native.Nat.{ℕ, suc, ◌+◌, ◌-◌, ◌*◌, ◌^◌, ◌≤◌, ◌<◌}
use native.Mathlib.Nat.{mul-le-mul_right}
use native.Mathlib.Numerals.{add-one}
use native.Mathlib.Omega.{arith}
use native.Mathlib.Decide.{dec_le}
use lib.ListN.{length}
use Rattle.std.specs.Prelude.{Option, Some, None}
use lib.Pow.{pow_mono}
use borrow.Author.Tests.{le-leb, lt-leb}
use Rattle.lists.specs.Lists.{pick}
use Rattle.lists.proofs.Tests.{each}
use Rattle.bits.specs.Bits.{bits}
use Rattle.tree_search.specs.Code.Answers.{search_answer}
use Rattle.tree.specs.Read.{Sought, nowhere, at-index, seek}
use Rattle.image.specs.Check.{accepted, headed}
use Rattle.image.specs.Image.{IsImage, pages}
use Rattle.image.specs.Code.Head.{Opened}
use Rattle.image.specs.Code.Page.{PageOf, RootAt, RootOf}
use Rattle.image.specs.Query.{page_fine, page_tests}
use Rattle.image.specs.Reach.{Reach, above-total, damage, header-wrong}
use Rattle.image.specs.Read.{before_of, e_of, list_of, n_of, page_count_of, root_at, s_of, sum_of, tree_at}
use Rattle.answers.specs.Image.{given, refused}
use Rattle.image_find.specs.Code.Span.{Between, HitAt, Narrowable, Narrowed, PageHit}
use Rattle.image_find.specs.Code.Step.{placed, reach_from}
use Rattle.image.proofs.DamageLaws.{is_within}
use Rattle.image.proofs.HeadLaws.{bounds, never}
use Rattle.image.proofs.RootLaws.{root-small}
use Rattle.image_find.proofs.ReachLaws.{reach-found}
use Rattle.image.proofs.Accepted.{accepted-only, length-list}
use Rattle.image.proofs.ReadLaws.{last-root as root-of-last, s-is}
use Rattle.image.proofs.QueryLaws.{page-fine}
use Rattle.image.specs.declared.head.Head.{Head}
use Rattle.image.specs.declared.page.Page.{Page}
use Rattle.image.specs.declared.page.Root.{Root}
use Rattle.image_find.specs.declared.Span.{Span}

not-accepted : (s : List ℕ) → (accepted s ≡ true → ⊥) → accepted s ≡ false
not-accepted s f = go (accepted s) f
  where
    go : (b : Bool) → (b ≡ true → ⊥) → b ≡ false
    go true f = absurd (f refl)
    go false f = refl

-- ---- on an image that check accepts
module _ (s : List ℕ) (a : accepted s ≡ true) where
  abbrev I : IsImage s (e_of s) (list_of s)
  I = accepted-only s a

  same-pages : pages (e_of s) (length (list_of s)) ≡ page_count_of s
  unfolding page_count_of
  same-pages = ap (pages (e_of s)) (length-list s)

  fine : (p : ℕ) → p < page_count_of s → page_fine s p ≡ true
  fine p l = ap (λ (z : List ℕ). page_fine z p) I.bytes ∙ page-fine (e_of s) (list_of s) I.limits p (omega (arith, same-pages))

  last-root : before_of s (page_count_of s) ≡ s_of s
  last-root =
      ap (λ (z : List ℕ). before_of z (page_count_of s)) I.bytes ∙ root-of-last (e_of s) (list_of s) I.limits (page_count_of s) (sym same-pages)
      ∙ sym (ap s_of I.bytes ∙ s-is (e_of s) (list_of s) I.limits)

pub no-pages : (s : List ℕ) (q : ℕ) → 1 ≤ q → q ≤ s_of s → page_count_of s ≡ 0 → accepted s ≡ false
unfolding before_of
no-pages s q l m e = not-accepted s (λ a. omega (arith, last-root s a, ap (before_of s) e))

-- ---- a look at page m
pub guess_small : (x n : ℕ) → x < 1099511627776 → n ≤ 65537 → x * n < 2 ^ 64
guess_small x n l m = omega (arith, mul-le-mul_right {m = x} {n = 1099511627776} n (omega arith))

module _ {s : List ℕ} {h : Head} {q : ℕ} {at : Span} (o : Opened s h) (b : Between s q at) where
  pub narrowable : at.lo < at.hi → Narrowable q at
  narrowable l = record { many = l; few = omega (arith, b.inside, (bounds s h o).few); low = b.low; high = b.high; small = b.small }

  module _ {m : ℕ} (l : at.lo ≤ m) (u : m < at.hi) where
    pub narrow-bad : RootAt s m None → accepted s ≡ false
    unfolding page_fine
    narrow-bad e = not-accepted s (λ a. never (sym (ap not e) ∙ (each (page_tests s m) (fine s a m (omega (arith, b.inside)))).0))

    module _ {t : Root} (rt : RootOf s m t) where
      value-small : t.value < 1099511627776
      value-small = omega (arith, rt.value-is, root-small s m (bounds s h o).narrow)

      pub narrow-left : q ≤ t.value → Narrowed s q at (Some (record { lo = at.lo; hi = m; below = at.below; above = t.value }))
      narrow-left k = (
        record {
          ordered = l;
          inside = omega (arith, b.inside);
          before = b.before;
          reaches = λ _. omega (arith, rt.value-is);
          low = b.low;
          high = k;
          small = omega (arith, value-small);
        },
        omega arith,
      )

      pub narrow-right : t.value < q → Narrowed s q at (Some (record { lo = m + 1; hi = at.hi; below = t.value; above = at.above }))
      unfolding before_of
      narrow-right k = (
        record {
          ordered = omega arith;
          inside = b.inside;
          before = omega (arith, rt.value-is, ap (before_of s) (add-one m));
          reaches = b.reaches;
          low = k;
          high = b.high;
          small = b.small;
        },
        omega arith,
      )

-- ---- the search
pub whole : (s : List ℕ) (q n t : ℕ) → 1 ≤ q → q ≤ t → t < 1099511627776 → n ≡ page_count_of s → (n ≡ 0 → ⊥)
    → Between s q (record { lo = 0; hi = n - 1; below = 0; above = t })
unfolding before_of
whole s q n t l m u e f = record {
  ordered = omega arith;
  inside = omega (arith, e, f);
  before = l;
  reaches = λ k. absurd (omega (arith, k, e, f));
  low = l;
  high = m;
  small = omega arith;
}

-- ---- the page
pub before_small : (e p m : ℕ) → e ≤ 8 → p ≤ 65536 → m ≡ 2 ^ e → m * p + 2 ^ e ≤ 16777472
before_small e p m l k em =
    let u : 2 ^ e ≤ 256 = pow_mono {i = e} {j = 8} l in
    omega (arith, em, mul-le-mul_right {m = m} {n = 256} p (omega (arith, em)))

-- the index that a search tells
abbrev Spot : ℕ → ℕ → Sought → Option ℕ → Type 0
Spot f n d None = placed f n d ≡ refused 6
Spot f n d (Some i) = (i ≤ n → placed f n d ≡ given i) × (n < i → placed f n d ≡ refused 6)

spot : (f n : ℕ) (d : Sought) → Spot f n d (search_answer f d)
unfolding search_answer placed pick
spot f n nowhere = refl
spot f n (at-index j) = ((λ (k : f + j ≤ n). rw (le-leb (f + j) n k) refl), (λ (k : n < f + j). rw (lt-leb (f + j) n k) refl))

pub found-six : (s : List ℕ) (h : Head) → Opened s h → (q : ℕ) → q ≤ h.total → accepted s ≡ false → Reach s q (refused 6)
found-six s h o q w a = damage o.passed (omega (arith, o.head.total-is)) a

-- a span of one is a page
pub page-hit : {s : List ℕ} {q : ℕ} {at : Span} → HitAt s q at → PageHit s q at.lo
page-hit {at = at} h =
    let e : at.lo ≡ at.hi = omega (arith, h.between.ordered, h.one) in
    record {
      inside = omega (arith, h.between.inside, h.between.ordered);
      before = h.between.before;
      reaches = rw e h.between.reaches;
    }

-- the image and the page of it that was found
pub record Found (s : List ℕ) (h : Head) (q p : ℕ) : Type 0 where
  pub opened : Opened s h
  pub within : q ≤ h.total
  pub hit : PageHit s q p

-- a page of it has damage
pub page-six : {s : List ℕ} {h : Head} {q p : ℕ} → Found s h q p → page_fine s p ≡ false → Reach s q (refused 6)
page-six {s} {h} {q} {p} g e = found-six s h g.opened q g.within (not-accepted s (λ a. never (sym e ∙ fine s a p g.hit.inside)))

module _ {s : List ℕ} {h : Head} {q p : ℕ} {r : Page} (g : Found s h q p) (pr : PageOf s p r) where
  abbrev o : Opened s h
  o = g.opened

  six : accepted s ≡ false → Reach s q (refused 6)
  six = found-six s h o q g.within

  root_is : r.before + r.sum ≡ root_at s p
  unfolding page_fine sum_of
  root_is =
      omega (
        arith,
        is_within (before_of s p) (root_at s p) (each (page_tests s p) pr.fine).1.1.1.1.0,
        pr.before-is,
        pr.sum_is,
      )

  pub above : r.before < q
  above = omega (arith, pr.before-is, g.hit.before)

  -- only the image's last page can have a root below q, and then it is not S
  pub last-six : r.before + r.sum < q → Reach s q (refused 6)
  unfolding before_of
  last-six k = six (not-accepted s (λ a. go a (dec_le (p + 2) (page_count_of s))))
    where
      go : accepted s ≡ true → Dec (p + 2 ≤ page_count_of s) → ⊥
      go a (yes i) = omega (arith, root_is, g.hit.reaches (omega (arith, i)))
      go a (no i) =
          omega (
            arith,
            root_is,
            o.head.total-is,
            last-root s a,
            g.within,
            ap (before_of s) {x = page_count_of s} {y = suc p} (omega (arith, g.hit.inside)),
          )

  module _ {m : ℕ} {w : Option ℕ} (em : m ≡ 2 ^ h.e) (ew : w ≡ search_answer (m * p) (seek h.e r.sum (bits s) r.at (q - r.before)))
      (k : q ≤ r.before + r.sum) where
    abbrev P : Sought
    P = seek (e_of s) (sum_of s p) (bits s) (tree_at s p) (q - before_of s p)

    found-is : w ≡ search_answer (2 ^ e_of s * p) P
    found-is =
        ew ∙ ap₂ (λ (z e : ℕ). search_answer (z * p) (seek e r.sum (bits s) r.at (q - r.before))) (em ∙ ap (λ (z : ℕ). 2 ^ z) o.head.e-is)
        o.head.e-is
        ∙ (λ j. search_answer (2 ^ e_of s * p) (seek (e_of s) (pr.sum_is j) (bits s) (pr.at-is j) (q - pr.before-is j)))

    from_is : reach_from s q p ≡ placed (2 ^ e_of s * p) (n_of s) P
    unfolding reach_from pick
    from_is = rw pr.fine

    answers : Reach s q (reach_from s q p)
    answers = reach-found s q p o.passed (omega (arith, o.head.total-is, g.within)) g.hit.inside g.hit.before (omega (arith, root_is))

    spots : Spot (2 ^ e_of s * p) (n_of s) P w
    spots = subst (Spot (2 ^ e_of s * p) (n_of s) P) (sym found-is) (spot (2 ^ e_of s * p) (n_of s) P)

    -- none is damage
    pub no-index : w ≡ None → Reach s q (refused 6)
    no-index e = subst (Reach s q) (from_is ∙ (rw e at spots)) answers

    -- the index that the search tells, or damage if it is past the hours
    pub index : {i : ℕ} → w ≡ Some i → (i ≤ h.hours → Reach s q (given i)) × (h.hours < i → Reach s q (refused 6))
    index {i} e =
        let at : Spot (2 ^ e_of s * p) (n_of s) P (Some i) = rw e at spots in (
          (λ (n : i ≤ h.hours). subst (Reach s q) (from_is ∙ at.0 (omega (arith, o.head.hours-is))) answers),
          (λ (n : h.hours < i). subst (Reach s q) (from_is ∙ at.1 (omega (arith, o.head.hours-is))) answers),
        )

-- ---- the refusals before
pub reach-five : (s : List ℕ) (q : ℕ) → headed s ≡ false → Reach s q (refused 5)
reach-five s q = header-wrong

pub reach-eight : {s : List ℕ} {h : Head} → Opened s h → (q : ℕ) → h.total < q → Reach s q (refused 8)
reach-eight o q l = above-total o.passed (omega (arith, o.head.total-is))
