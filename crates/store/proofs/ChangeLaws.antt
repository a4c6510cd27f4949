-- The change of one hour, in the numbers that the code has. Assumes nothing.
use mathlib.Core.Path.{◌≡◌, sym, ap, ap₂, ◌∙◌}
use mathlib.Core.List.{List, [], ◌++◌}
use Prim.Native.Nat.{ℕ, ◌+◌, ◌-◌, ◌*◌, ◌/◌, ◌%◌, ◌≤◌, ◌<◌, max}
use native.Mathlib.Omega.{arith}
use native.Mathlib.Decide.{dec_le}
use lib.ListN.{length, get_or, set, replicate}
use borrow.Author.Tests.{lt-ltb, le-ltb}
use Rattle.lists.specs.Lists.{pick, sum}
use Rattle.bits.specs.Numbers.{number_at}
use Rattle.store.specs.Limits.{max_total}
use Rattle.store.specs.PageCode.{cells, page_bytes}
use Rattle.store.specs.Plain.{Outcome, Plain, change, need, page, relisted}
use Rattle.answers.specs.Store.{changed, refused}
use Rattle.store.specs.Layout.{Model, bytes_of, entry_at, cells_start}
use Rattle.store.specs.Reading.{list_in, page_count_of, read, sum_in}
use Rattle.store.specs.Call.{settle}
use Rattle.store.specs.Code.Links.{Rewritable, rewritten}
use Rattle.store.specs.Code.Head.{HeadOf}
use Rattle.store.specs.declared.header.Header.{Header}
use Rattle.store.specs.Code.Hours.{Asked, Changes, OfPage, change_to, with_hour}
use Rattle.store.proofs.HourLaws.{With, get_d_le, page-hour, page-set, page-sum, tabulate-le, with-hour}
use Rattle.store.proofs.Keep.{need-off}
use Rattle.store.proofs.OnePage.{settled-off}
use Rattle.store.proofs.PageChange.{rewritable, rewritten-bytes}
use Rattle.store.proofs.ReadBack.{page-le}
use Rattle.store.proofs.SoundFacts.{Facts, facts, sound-holds, sum-read}
use Rattle.store.proofs.Spread.{Spread, spread-of}

-- a rise and a fall: 'one of the two is 0'
pub one_side : (a b : ℕ) → (a - b) * (b - a) ≡ 0
one_side a b = go (dec_le a b)
  where
    go : Dec (a ≤ b) → (a - b) * (b - a) ≡ 0
    go (yes l) = let e : a - b ≡ 0 = omega arith in rw e (omega arith)
    go (no l) = let e : b - a ≡ 0 = omega arith in rw e (omega arith)

module _ (L : Plain) (ys : List ℕ) where
  pub change-over : max_total < sum ys → change L ys ≡ record { answer = refused 3; list = L }
  unfolding change pick
  change-over a = rw (lt-ltb max_total (sum ys) a)

  pub change-short : sum ys ≤ max_total → L.cells < need ys L.pages → change L ys ≡ record { answer = refused 12; list = L }
  unfolding change pick
  change-short a b = rw (le-ltb max_total (sum ys) a, lt-ltb L.cells (need ys L.pages) b)

  pub change-done : sum ys ≤ max_total → need ys L.pages ≤ L.cells
      → change L ys ≡ record {
        answer = changed (need ys L.pages - need L.counts L.pages)
            (need L.counts L.pages - need ys L.pages);
        list = relisted L ys;
      }
  unfolding change pick
  change-done a b = rw (le-ltb max_total (sum ys) a, le-ltb L.cells (need ys L.pages) b)

-- what the code has read: the page's counts, its sum, its cells, and the list's total
pub record Has (s : List ℕ) (i : ℕ) (counts : List ℕ) (before old total : ℕ) : Type 0 where
  pub counts-are : counts ≡ page (list_in s) (i / 64)
  pub before-is : before ≡ sum_in s (i / 64)
  pub old-is : old ≡ cells before
  pub total-is : total ≡ sum (list_in s)

pub has : (s : List ℕ) (i : ℕ) {e : ℕ} {counts : List ℕ} {before old total : ℕ} → counts ≡ page (list_in s) (i / 64)
    → e ≡ entry_at (i / 64)
    → before ≡ number_at s e 4 → old ≡ cells before → total ≡ sum (list_in s) → Has s i counts before old total
has s i a e b c d = record { counts-are = a; before-is = sum-read s (i / 64) _ _ e b; old-is = c; total-is = d }

-- the page of an hour that is asked for
pub of-page : {s : List ℕ} {i base e before old : ℕ} {H : Header} → Asked s i → HeadOf s H → base ≡ cells_start H.pages → e ≡ entry_at (i / 64)
    → before ≡ number_at s e 4 → old ≡ cells before
    → OfPage s base (i / 64) before old
of-page {s} {i} q hd eb e b c = record {
  holds = sound-holds s q.is-sound;
  base-is = eb ∙ ap cells_start hd.pages-is;
  inside = omega (arith, q.inside);
  sum_is = sum-read s (i / 64) _ _ e b;
  cells_is = c;
}

module _ {s : List ℕ} {i : ℕ} (v : ℕ) (q : Asked s i) {H : Header} (hd : HeadOf s H) {counts : List ℕ} {before old total : ℕ}
    (h : Has s i counts before old total) where
  abbrev m : Model
  m = read s

  abbrev xs : List ℕ
  xs = m.plain.counts

  abbrev ys : List ℕ
  ys = with_hour xs i v

  abbrev p : ℕ
  p = i / 64

  -- the count that was there, and the sums with the new one
  abbrev was : ℕ
  was = get_or counts (i % 64) 0

  abbrev after : ℕ
  after = before - was + v

  f : Facts s
  f = facts s q.is-sound

  w : With xs ys i v
  w = with-hour xs i v q.reached

  lp : p < page_count_of s
  lp = omega (arith, q.inside)

  pages-eq : page_count_of s ≡ m.plain.pages
  pages-eq = f.pages-are

  was-is : was ≡ get_or xs i 0
  was-is = ap (λ (z : List ℕ). get_or z (i % 64) 0) h.counts-are ∙ page-hour xs i

  before-eq : before ≡ sum (page xs p)
  before-eq = h.before-is ∙ f.sums p lp

  pub was-total : was ≤ total
  was-total = omega (arith, was-is, get_d_le xs i, h.total-is)

  pub was-before : was ≤ before
  was-before = omega (arith, was-is, before-eq, page-hour xs i, get_d_le (page xs p) (i % 64))

  pub total-fits : total ≤ max_total
  total-fits = omega (arith, h.total-is, f.total-fits)

  pub before-fits : before ≤ max_total
  before-fits = omega (arith, h.before-is, f.sum_fits p lp)

  total-new : sum ys ≡ total - was + v
  total-new = omega (arith, w.total, was-is, was-total, h.total-is)

  after-eq : sum (page ys p) ≡ after
  after-eq = omega (arith, page-sum xs ys i v w, was-is, was-before, before-eq)

  pub counts-new : set counts (i % 64) v ≡ page ys p
  counts-new = ap (λ (z : List ℕ). set z (i % 64) v) h.counts-are ∙ page-set xs ys i v w

  -- what is asked of the encoder
  pub sum-new : after ≡ sum (set counts (i % 64) v)
  sum-new = sym (ap sum counts-new ∙ after-eq)

  pub after-fits : total - was + v ≤ max_total → after ≤ max_total
  after-fits l = omega (arith, page-le ys p, total-new, after-eq)

  abbrev new : ℕ
  new = cells after

  old-eq : old ≡ cells (sum (page xs p))
  old-eq = h.old-is ∙ ap cells before-eq

  new-eq : cells (sum (page ys p)) ≡ new
  new-eq = ap cells after-eq

  -- the free cells are short exactly when the need is above the cells
  needs : need ys m.plain.pages + old ≡ need xs m.plain.pages + new
  needs = omega (arith, need-off xs ys i m.plain.pages w.off (omega (arith, lp, pages-eq)), old-eq, new-eq)

  left : number_at s 8 2 + need xs m.plain.pages ≡ m.plain.cells
  left = omega (arith, f.free-and-need, ap (need xs) pages-eq, f.cells_are)

  unchanged : (k : ℕ) → change m.plain ys ≡ record { answer = refused k; list = m.plain } → Changes s i v (refused k) s
  unfolding settle change_to
  unchanged k e = record {
    answer = sym (ap (λ (o : Outcome). o.answer) e);
    bytes = f.same ∙ sym (ap (λ (o : Outcome). bytes_of (settle m o o.answer)) e);
  }

  pub end-3 : max_total < total - was + v → Changes s i v (refused 3) s
  end-3 l = unchanged 3 (change-over m.plain ys (omega (arith, total-new)))

  pub end-12 : {n : ℕ} → total - was + v ≤ max_total → n ≡ new → old + H.free < n → Changes s i v (refused 12) s
  end-12 l e r = unchanged 12 (change-short m.plain ys (omega (arith, total-new)) (omega (arith, needs, left, hd.free-is)))

  module _ (l : total - was + v ≤ max_total) {n : ℕ} (en : n ≡ new) (r : n ≤ old + H.free) {hours : ℕ} (eh : hours ≡ max H.hours (i + 1))
      {code : List ℕ} (ec : code ≡ page_bytes (set counts (i % 64) v) ++ replicate (240 - 30 * new) 0) where
    old-le : old ≤ need xs m.plain.pages
    unfolding need
    old-le = omega (arith, old-eq, tabulate-le m.plain.pages (λ z. cells (sum (page xs z))) p (omega (arith, lp, pages-eq)))

    enough : need ys m.plain.pages ≤ m.plain.cells
    enough = omega (arith, needs, left, old-le, hd.free-is)

    sp : Spread s m
    sp = spread-of s m f.good.rows f.holds

    pages-as : H.pages ≡ m.plain.pages
    pages-as = hd.pages-is ∙ pages-eq

    cells-as : n ≡ cells (sum (page ys p))
    cells-as = en ∙ sym new-eq

    hours-as : hours ≡ length ys
    hours-as = omega (arith, eh, w.long, f.hours-are, hd.hours-is)

    code-as : code ≡ page_bytes (page ys p) ++ replicate (240 - 30 * cells (sum (page ys p))) 0
    code-as = ec ∙ ap₂ (λ (u : List ℕ) (z : ℕ). page_bytes u ++ replicate (240 - 30 * z) 0) counts-new (sym new-eq)

    chain-as : old ≡ length (get_or m.chains p [])
    chain-as = old-eq ∙ sym (f.good.lengths p (omega (arith, lp, pages-eq)))

    fits : length ys ≤ 64 * m.plain.pages
    fits = omega (arith, w.long, f.good.hours, q.inside, pages-eq)

    inside : i < 64 * m.plain.pages
    inside = omega (arith, q.inside, pages-eq)

    small : sum ys ≤ max_total
    small = omega (arith, total-new)

    -- what the rewriting of the page asks for
    pub can-rewrite : {base : ℕ} → base ≡ cells_start H.pages → Rewritable s base p old n code after hours
    can-rewrite eb =
        rw (eb, code-as, pages-as, hours-as, chain-as, cells-as, ← after-eq) (rewritable m f.good s sp ys i w.off inside fits small enough)

    same_bytes : {base : ℕ} → base ≡ cells_start H.pages → rewritten s base p old n code after hours
        ≡ rewritten s (cells_start m.plain.pages) p (length (get_or m.chains p [])) (cells (sum (page ys p)))
        (page_bytes (page ys p) ++ replicate (240 - 30 * cells (sum (page ys p))) 0) (sum (page ys p)) (length ys)
    same_bytes eb = rw (eb, code-as, pages-as, hours-as, chain-as, cells-as, ← after-eq)

    -- and what it leaves
    pub end-done : {t : List ℕ} {base rise fall : ℕ} → base ≡ cells_start H.pages → t ≡ rewritten s base p old n code after hours → rise ≡ n - old → fall ≡ old - n
        → Changes s i v (changed rise fall) t
    unfolding settle change_to
    end-done eb e a b =
        let d = change-done m.plain ys small enough in
        record {
          answer = sym (ap (λ (o : Outcome). o.answer) d ∙ ap₂ changed (omega (arith, needs)) (omega (arith, needs)));
          bytes =
              e ∙ same_bytes eb ∙ rewritten-bytes m f.good s sp ys i w.off inside fits small enough
              ∙ sym (ap bytes_of (settled-off m ys i f.good w.off inside))
              ∙ sym (ap (λ (o : Outcome). bytes_of (settle m o o.answer)) d);
        }
