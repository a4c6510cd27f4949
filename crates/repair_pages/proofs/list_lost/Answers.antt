-- `repair_pages::list_lost` meets its contract. The invariant: the marks, the total and the list are those of the pages passed. Assumes nothing.
use mathlib.Core.Path.{◌≡◌, ap, ◌∙◌}
use mathlib.Core.List.{List}
use Prim.Native.Nat.{ℕ, ◌+◌, ◌*◌, ◌≤◌, ◌<◌}
use native.Mathlib.Omega.{arith}
use lib.ListN.{length}
use Rattle.store.specs.Code.Head.{HeadOf}
use Rattle.store.specs.Fitting.{Fitting}
use Rattle.store.specs.Layout.{cells_start}
use Rattle.store.specs.Limits.{max_cells}
use Rattle.store.specs.Reading.{cells_of, page_count_of}
use Rattle.store.specs.declared.header.Header.{Header}
use Rattle.repair_pages.proofs.ListSteps.{along-fits, along-start, noted-few, noted-start, turn-fits, turn-no, turn-yes, turns-done}
use Rattle.repair_pages.proofs.list_lost.Goals as goal
use Rattle.repair_pages.proofs.list_lost.Goals.{then-keep_page, else-keep_page}

pub of-h-requires : goal.of-h-requires
of-h-requires c = omega (arith, c.requires.fitting.long)

bounds : {s : List ℕ} {h : Header} {base : ℕ} → HeadOf s h → Fitting s (page_count_of s) (cells_of s) → base ≡ cells_start h.pages
    → (16 ≤ base) × (base < 65536) × (length s ≡ base + 32 * h.cells) × (h.cells ≤ max_cells)
bounds h f b = (
  omega (arith, b),
  omega (arith, b, h.pages-is, f.limits.pages-high),
  omega (arith, b, h.pages-is, h.cells_is, f.long),
  omega (arith, h.cells_is, f.limits.cells-high),
)

pub invariant_of-cells : goal.invariant_of-cells
invariant_of-cells c =
    let w = bounds c.of-h.ensures c.requires.fitting c.cells_from.ensures in
    record { high = w.0; low = w.1; size = w.2; few = w.3 }

pub loop-p-init : goal.loop-p-init
loop-p-init c =
    record { along = along-start _ _ c.requires.unmarked; noted = noted-start _ c.args.lost.now }

pub keep_page-requires : goal.keep_page-requires
keep_page-requires c =
    let h = c.of-h.ensures in
    let l = c.loop-p in
    let q = c.requires in
    record {
      base-is = c.cells_from.ensures ∙ ap cells_start h.pages-is;
      cells_is = h.cells_is;
      hours-is = h.hours-is;
      hours-small = h.hours-small;
      fitting = q.fitting;
      inside = omega (arith, h.pages-is, c.loop-p-test.true);
      fits = along-fits _ _ l.p l.total l.invariant.along;
    }

pub entry_at-requires : goal.entry_at-requires
entry_at-requires c =
    let f = c.requires.fitting in
    let h = c.of-h.ensures in
    omega (arith, h.pages-is, f.limits.pages-high)

pub get-total-requires-clause-in_bounds : goal.get-total-requires-clause-in_bounds
get-total-requires-clause-in_bounds c =
    let f = c.requires.fitting in
    let h = c.of-h.ensures in
    omega (arith, h.pages-is, f.long, c.entry_at.ensures)

pub overflow_add-total : goal.overflow_add-total
overflow_add-total c =
    let l = c.loop-p in
    let f = c.requires.fitting in
    omega (
      arith,
      turn-fits _ _ _ _ _ l.p l.total l.n f.limits.cells-high l.invariant c.keep_page.ensures c.if-keep_page.true
          c.entry_at.ensures c.get-total.ensures,
    )

pub offset_bounds-lost-n : goal.offset_bounds-lost-n
offset_bounds-lost-n c =
    let l = c.loop-p in
    let h = c.of-h.ensures in
    omega (arith, noted-few _ _ _ l.n l.p l.invariant.noted, h.pages-small, c.loop-p-test.true)

pub bounds-lost-n : goal.bounds-lost-n
bounds-lost-n c =
    let l = c.loop-p in
    let h = c.of-h.ensures in
    let q = c.requires in
    omega (arith, noted-few _ _ _ l.n l.p l.invariant.noted, l.invariant.noted.long, q.room, h.pages-is, c.loop-p-test.true)

pub overflow_add-n : goal.overflow_add-n
overflow_add-n c =
    let l = c.loop-p in
    let h = c.of-h.ensures in
    omega (arith, noted-few _ _ _ l.n l.p l.invariant.noted, h.pages-small, c.loop-p-test.true)

pub loop-p-preserved : goal.loop-p-preserved
loop-p-preserved c =
    let l = c.loop-p in
    let h = c.of-h.ensures in
    let q = c.requires in
    let k = c.keep_page in
    let few = q.fitting.limits.cells-high in
    let lt = c.loop-p-test.true in
    elim c.if-keep_page.branch [
      | then-keep_page w ↦
          turn-yes _ _ _ _ _ _ l.p l.total l.n few l.invariant k.ensures w.if-keep_page.true w.entry_at.ensures w.get-total.ensures
          w.lost-is w.total-is w.n-is
      | else-keep_page w ↦
          turn-no _ _ _ _ _ _ l.p l.total l.n few l.invariant k.ensures w.if-keep_page.false
          (omega (arith, noted-few _ _ _ l.n l.p l.invariant.noted, q.room, h.pages-is)) w.lost-is w.total-is w.n-is
    ]

pub shape_of-lost : goal.shape_of-lost
shape_of-lost c = omega (arith, c.loop-p.invariant.noted.long)

pub returns : goal.returns
returns c =
    let l = c.loop-p in
    let h = c.of-h.ensures in
    turns-done _ _ _ _ l.total l.n l.p (omega (arith, h.pages-is, c.loop-p-test.false)) l.invariant
