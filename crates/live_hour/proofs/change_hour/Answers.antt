-- `live_hour::change_hour` meets its contract. Assumes nothing.
use mathlib.Core.Path.{◌≡◌, sym, ap, ap₂, ◌∙◌}
use mathlib.Core.List.{List, ◌++◌}
use Prim.Native.Nat.{ℕ, ◌+◌, ◌-◌, ◌*◌, ◌/◌, ◌%◌, ◌≤◌, max}
use native.Mathlib.Omega.{arith}
use lib.ListN.{get_or, replicate, set}
use Rattle.lists.specs.Lists.{sum}
use Rattle.store.specs.Code.Links.{rewritten}
use Rattle.store.specs.Layout.{cells_start}
use Rattle.store.specs.Limits.{max_total}
use Rattle.store.specs.PageCode.{cells, page_bytes}
use Rattle.store.specs.Plain.{page}
use Rattle.store.specs.Reading.{list_in, page_count_of, sum_in}
use Rattle.store.proofs.SoundFacts.{facts}
use Rattle.store.proofs.ChangeLaws.{Has, after-fits, can-rewrite, end-12, end-3, end-done, sum-new, total-fits, was-before, was-total}
use Rattle.pages.proofs.SoundPage.{few}
use Rattle.live_hour.proofs.change_hour.Goals.{After-total-all}
use Rattle.live_hour.proofs.change_hour.Goals as goal

-- what the code has read
known : (c : After-total-all) → Has c.args.s.now c.args.i c.counts-counts.result c.entry_of-entry.result.sum c.entry_of-entry.result.cells c.total-all.result
known c =
    let e = c.entry_of-entry in
    let p : e.result.page ≡ c.args.i / 64 = e.ensures.1 ∙ c.of-spot.ensures.0 in
    record {
      counts-are = c.counts-counts.ensures ∙ ap₂ (λ (s : List ℕ) (z : ℕ). page (list_in s) z) e.ensures.0 p;
      before-is = e.result.of_page.sum_is ∙ ap₂ sum_in e.ensures.0 p;
      old-is = e.result.of_page.cells_is;
      total-is = c.total-all.ensures;
    }

-- where the cells start, and the count that was there
base-is : (c : After-total-all) → c.entry_of-entry.result.base ≡ cells_start c.of-head.result.pages
base-is c =
    let e = c.entry_of-entry in
    e.result.of_page.base-is ∙ ap cells_start (ap page_count_of e.ensures.0 ∙ sym c.of-head.ensures.pages-is)

was-is : (c : After-total-all) → c.from-was.result ≡ get_or c.counts-counts.result (c.args.i % 64) 0
was-is c = c.from-was.ensures ∙ ap (λ (z : ℕ). get_or c.counts-counts.result z 0) c.of-spot.ensures.1

-- what becomes of a sum
with-new : (c : After-total-all) → (n : ℕ) → n - c.from-was.result + c.from-count.result ≡ n - get_or c.counts-counts.result (c.args.i % 64) 0 + c.args.v
with-new c n = ap₂ (λ (a b : ℕ). n - a + b) (was-is c) c.from-count.ensures

-- the hours that it is told
hours-are : (c : After-total-all) → c.args.hours ≡ max c.of-head.result.hours (c.args.i + 1)
hours-are c = c.requires.1 ∙ ap (λ (z : ℕ). max z (c.args.i + 1)) (sym c.of-head.ensures.hours-is)

pub of-head-requires : goal.of-head-requires
of-head-requires c = omega (arith, (facts c.args.s.now c.requires.0.is-sound).long)

pub entry_of-entry-requires : goal.entry_of-entry-requires
entry_of-entry-requires c = omega (arith, c.requires.0.inside, c.of-spot.ensures.0)

pub overflow_sub-all : goal.overflow_sub-all
overflow_sub-all c =
    let a = (goal.at.overflow_sub-all c).After-total-all in
    omega (arith, was-is a, was-total c.args.v c.requires.0 c.of-head.ensures (known a))

pub overflow_add-all : goal.overflow_add-all
overflow_add-all c =
    let a = (goal.at.overflow_add-all c).After-total-all in
    omega (arith, total-fits c.args.v c.requires.0 c.of-head.ensures (known a), c.from-count.ensures, c.ranges.v)

pub returns-then-all-was-gt-MAX_TOTAL : goal.returns-then-all-was-gt-MAX_TOTAL
returns-then-all-was-gt-MAX_TOTAL c =
    let a = (goal.at.returns-then-all-was-gt-MAX_TOTAL c).After-total-all in
    end-3 c.args.v c.requires.0 c.of-head.ensures (known a) (omega (arith, with-new a c.total-all.result, c.if-all-was-gt-MAX_TOTAL.true))

-- the total that is not too high
module _ (c : After-total-all) (l : c.total-all.result - c.from-was.result + c.from-count.result ≤ max_total) where
  low : c.total-all.result - get_or c.counts-counts.result (c.args.i % 64) 0 + c.args.v ≤ max_total
  low = omega (arith, with-new c c.total-all.result, l)

  now-fits : c.entry_of-entry.result.sum - c.from-was.result + c.from-count.result ≤ max_total
  now-fits =
      omega (arith, with-new c c.entry_of-entry.result.sum, after-fits c.args.v c.requires.0 c.of-head.ensures (known c) low)

pub overflow_sub-after : goal.overflow_sub-after
overflow_sub-after c =
    let a = (goal.at.overflow_sub-after c).After-total-all in
    omega (arith, was-is a, was-before c.args.v c.requires.0 c.of-head.ensures (known a))

pub overflow_add-after : goal.overflow_add-after
overflow_add-after c =
    omega (arith, now-fits (goal.at.overflow_add-after c).After-total-all c.if-all-was-gt-MAX_TOTAL.false)

pub overflow_add-room : goal.overflow_add-room
overflow_add-room c = omega (arith, few c.entry_of-entry.result.of_page, c.of-head.ensures.free-small)

pub cells_of-new-requires : goal.cells_of-new-requires
cells_of-new-requires c = now-fits (goal.at.cells_of-new-requires c).After-total-all c.if-all-was-gt-MAX_TOTAL.false

pub returns-then-room-new : goal.returns-then-room-new
returns-then-room-new c =
    let a = (goal.at.returns-then-room-new c).After-total-all in
    end-12 c.args.v c.requires.0 c.of-head.ensures (known a) (low a c.if-all-was-gt-MAX_TOTAL.false)
    (c.cells_of-new.ensures.0 ∙ ap cells (with-new a c.entry_of-entry.result.sum)) c.if-room-new.true

pub code_of-code-requires : goal.code_of-code-requires
code_of-code-requires c =
    let a = (goal.at.code_of-code-requires c).After-total-all in
    let l = now-fits a c.if-all-was-gt-MAX_TOTAL.false in (
      with-new a c.entry_of-entry.result.sum ∙ sum-new c.args.v c.requires.0 c.of-head.ensures (known a)
          ∙ sym (ap (λ (z : ℕ). sum (set c.counts-counts.result z c.args.v)) c.of-spot.ensures.1),
      omega (arith, l),
    )

pub rewrite-requires : goal.rewrite-requires
rewrite-requires c =
    let a = (goal.at.rewrite-requires c).After-total-all in
    let w = with-new a c.entry_of-entry.result.sum in
    rw (c.of-spot.ensures.0, w)
    (can-rewrite c.args.v c.requires.0 c.of-head.ensures (known a) (low a c.if-all-was-gt-MAX_TOTAL.false)
    (c.cells_of-new.ensures.0 ∙ ap cells w) c.if-room-new.false (hours-are a)
    (c.code_of-code.ensures
    ∙ ap₂ (λ (j n : ℕ). page_bytes (set c.counts-counts.result j c.args.v) ++ replicate (240 - 30 * cells n) 0) c.of-spot.ensures.1 w) (base-is a))

pub returns : goal.returns
returns c =
    let a = (goal.at.returns c).After-total-all in
    let w = with-new a c.entry_of-entry.result.sum in
    end-done c.args.v c.requires.0 c.of-head.ensures (known a) (low a c.if-all-was-gt-MAX_TOTAL.false)
    (c.cells_of-new.ensures.0 ∙ ap cells w) c.if-room-new.false (hours-are a)
    (c.code_of-code.ensures
    ∙ ap₂ (λ (j n : ℕ). page_bytes (set c.counts-counts.result j c.args.v) ++ replicate (240 - 30 * cells n) 0) c.of-spot.ensures.1 w) (base-is a)
    (c.rewrite.ensures
    ∙ ap₂ (λ (p n : ℕ). rewritten c.args.s.now c.entry_of-entry.result.base p c.entry_of-entry.result.cells c.cells_of-new.result c.code_of-code.result n c.args.hours)
    c.of-spot.ensures.0 w) c.between.ensures.0 c.between.ensures.1
