-- The sums of an image's pages from the readings at their ends. Assumes nothing.
use mathlib.Core.Path.{◌≡◌, sym, ap, ap₂, subst, ◌∙◌}
use mathlib.Core.Bool.{true}
use mathlib.Core.List.{List}
use Prim.Native.Nat.{ℕ, ◌+◌, ◌-◌, ◌*◌, ◌/◌, ◌^◌, ◌≤◌, ◌<◌, min}
use native.Mathlib.Decide.{dec_le}
use native.Mathlib.Nat.{div-mul-le_self, lt-div-mul-add, mul-le-mul_left, mul-le-mul_right}
use native.Mathlib.Numerals.{add-one}
use native.Mathlib.Omega.{arith}
use lib.ListN.{length}
use lib.Pow.{pow-add, pow_mono, pow_pos}
use lib.Seq.{take_all}
use Rattle.lists.specs.Lists.{reading, sum}
use Rattle.lists.proofs.Sums.{sum-take-le}
use Rattle.bits.specs.Numbers.{number_at}
use Rattle.image.specs.Image.{page, pages, root}
use Rattle.image.proofs.PageLaws.{page-le, page-sum, pages-tight}
use Rattle.image_plan.specs.Code.Planning.{Awaits, Drafted, PageSum}
use Rattle.image_plan.specs.declared.Plan.{Plan}
use Rattle.pages.proofs.Prefix.{reading-next}
use Rattle.pages.proofs.SoundPage.{sum_same}
use Rattle.store.specs.Code.Hours.{OfPage}
use Rattle.store.specs.Reading.{list_in, page_count_of}
use Rattle.store.specs.Sound.{sound}
use Rattle.store.proofs.SoundFacts.{facts}
use Rattle.freeze_plan.specs.Code.Steps.{Ending}

-- the hours that a header has are those of the list
pub hours-are : (s : List ℕ) → sound s ≡ true → (n : ℕ) → n ≡ number_at s 12 4 → length (list_in s) ≡ n
hours-are s e n q = sym (q ∙ (facts s e).hours-are)

-- ---- the next page of a plan, whose end has the reading all
-- that is no less than the plan's total
ends_above : {e : ℕ} {xs : List ℕ} {r : Plan} {all : ℕ} → Drafted e xs r → all ≡ reading xs (2 ^ e * (r.done + 1))
    → r.total + sum (page e xs r.done) ≡ all
unfolding root
ends_above {e} {xs} {r} {all} d q =
    let n : all ≡ root e xs r.done = q ∙ ap (λ (z : ℕ). reading xs (2 ^ e * z)) (add-one r.done) in
    omega (arith, d.passed.total-is, page-sum e xs r.done)

pub total-le : {all end : ℕ} {r : Plan} → Ending all end r → r.done < end → r.total ≤ all
total-le {all} {end} {r} a l = omega (arith, ends_above a.drafted (a.next l).1)

-- and as much more as the page's counts
pub ending-sum : {all end : ℕ} {r : Plan} (a : Ending all end r) → r.done < end → PageSum a.e a.xs r.done (all - r.total)
ending-sum {all} {end} {r} a l =
    let q : r.total + sum (page a.e a.xs r.done) ≡ all = ends_above a.drafted (a.next l).1 in
    record { page-is = omega arith; small = omega (arith, page-le a.e a.xs r.done, a.total-fits) }

abbrev pub ending : {all end : ℕ} {r : Plan} → Ending all end r → r.done < end → Awaits r (all - r.total)
ending {all} {end} {r} a l = record {
  e = a.e;
  xs = a.xs;
  drafted = a.drafted;
  more = omega (arith, l, a.end-one);
  sum_is = ending-sum a l;
}

-- ---- page after page of the store
-- a plan says its exponent itself
pub at_own : {e : ℕ} {xs : List ℕ} {r : Plan} → Drafted e xs r → Drafted r.e xs r
at_own {e} {xs} {r} d = subst (λ (z : ℕ). Drafted z xs r) (sym d.e-is) d

pub of-own : {e : ℕ} {xs : List ℕ} {r n : Plan} → Drafted e xs r → Drafted r.e xs n → Drafted e xs n
of-own {e} {xs} {r} {n} d t = subst (λ (z : ℕ). Drafted z xs n) d.e-is t

-- the reading behind page p
pub all-next : {s : List ℕ} {P p t k : ℕ} (all : ℕ) → OfPage s P p t k → all ≡ reading (list_in s) (64 * p)
    → all + t ≡ reading (list_in s) (64 * (p + 1))
all-next {s} {P} {p} {t} all o q = ap₂ ◌+◌ q (sum_same o) ∙ sym (reading-next (list_in s) p)

-- the pages that end in page p, or before
pub end-in : (e m p end n : ℕ) → m ≡ 2 ^ e → end ≡ min (64 * (p + 1) / m) n → (end ≤ n) × (2 ^ e * end ≤ 64 * p + 64)
end-in e m p end n em q =
    let x : end ≤ 64 * (p + 1) / m = omega arith in
    rw (← em) (omega arith, omega (arith, div-mul-le_self (64 * (p + 1)) m, mul-le-mul_left m x))

div-above : (x m : ℕ) → 0 < m → x < x / m * m + m
div-above x m l = lt-div-mul-add l

-- are there now
pub ahead : (e m p end n d : ℕ) → m ≡ 2 ^ e → end ≡ min (64 * (p + 1) / m) n → end ≤ d → d < n → 64 * (p + 1) < 2 ^ e * (d + 1)
ahead e m p end n d em q l k =
    let x : 64 * (p + 1) / m ≤ d = omega arith in
    let low : 0 < m = rw em (pow_pos e) in
    rw (← em) (omega (arith, div-above (64 * (p + 1)) m low, mul-le-mul_right m x))

pub power-low : (e m : ℕ) → m ≡ 2 ^ e → e ≤ 8 → (0 < m) × (m ≤ 256)
power-low e m q l = rw q (pow_pos e, pow_mono {i = e} {j = 8} l)

-- ---- pages no smaller than the store's
-- so many of the store's make one
wholes : (e : ℕ) → 64 ≤ 2 ^ e → 64 * 2 ^ (e - 6) ≡ 2 ^ e
wholes e l = go (dec_le 6 e)
  where
    go : Dec (6 ≤ e) → 64 * 2 ^ (e - 6) ≡ 2 ^ e
    go (yes y) = sym (pow-add 2 6 (e - 6)) ∙ ap (λ (z : ℕ). 2 ^ z) {x = 6 + (e - 6)} {y = e} (omega arith)
    go (no y) = absurd (omega (arith, pow_mono {i = e} {j = 5} (omega (arith, y))))

-- only one ends in a page of the store, and with it
one-ends : (m w p d end : ℕ) → 64 * w ≡ m → 0 < m → d < end → m * end ≤ 64 * p + 64 → 64 * p < m * (d + 1)
    → (end ≤ d + 1) × (m * (d + 1) ≡ 64 * (p + 1))
one-ends m w p d end q lo l h a =
    let x : d + 1 ≤ end = omega arith in
    let z : m * (d + 1) ≡ 64 * (p + 1) = omega (arith, mul-le-mul_left m x, ap (λ (y : ℕ). y * (d + 1)) q) in
    (go z (dec_le end (d + 1)), z)
  where
    go : m * (d + 1) ≡ 64 * (p + 1) → Dec (end ≤ d + 1) → end ≤ d + 1
    go z (yes y) = y
    go z (no y) =
        let x : d + 2 ≤ end = omega (arith, y) in
        absurd (omega (arith, mul-le-mul_left m x))

pub ends_with : (e p d end : ℕ) (xs : List ℕ) (all : ℕ) → all ≡ reading xs (64 * (p + 1)) → 64 ≤ 2 ^ e → d < end → 2 ^ e * end ≤ 64 * p + 64
    → 64 * p < 2 ^ e * (d + 1) → (end ≤ d + 1) × (all ≡ reading xs (2 ^ e * (d + 1)))
ends_with e p d end xs all q g l h a =
    let z = one-ends (2 ^ e) (2 ^ (e - 6)) p d end (wholes e g) (pow_pos e) l h a in
    (z.0, q ∙ ap (reading xs) (sym z.1))

-- ---- behind the last page of the store
module _ (s : List ℕ) (e : sound s ≡ true) where
  abbrev xs : List ℕ
  xs = list_in s

  pub total-fits : sum xs ≤ 4294967295
  total-fits = (facts s e).total-fits

  pub reading-fits : (i : ℕ) → reading xs i ≤ 4294967295
  reading-fits i = omega (arith, sum-take-le i xs, total-fits)

  hours-in : length xs ≤ 64 * page_count_of s
  hours-in = omega (arith, (facts s e).hours-are, (facts s e).hours-fit)

  pub behind : (p n i all : ℕ) → n ≡ page_count_of s → n ≤ p → all ≡ reading xs (64 * p) → 64 * p < i → all ≡ reading xs i
  behind p n i all q l a k =
      a ∙ ap sum (take_all (64 * p) xs (omega (arith, hours-in)) ∙ sym (take_all i xs (omega (arith, hours-in))))

  pub last-page : (h p n d k : ℕ) → n ≡ page_count_of s → n ≤ p → k ≡ pages h (length xs) → 64 * p < 2 ^ h * (d + 1) → k ≤ d + 1
  last-page h p n d k q l ek a = go (dec_le k (d + 1))
    where
      go : Dec (k ≤ d + 1) → k ≤ d + 1
      go (yes y) = y
      go (no y) = absurd (omega (arith, pages-tight h (length xs) (d + 1) (omega (arith, y, ek)), hours-in))
