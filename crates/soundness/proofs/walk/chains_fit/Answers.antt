-- `soundness::walk::chains_fit` meets its contract. Assumes nothing.
use mathlib.Core.Path.{◌≡◌, refl, sym, ◌∙◌}
use mathlib.Core.Bool.{Bool, true, false}
use Prim.Native.Nat.{ℕ, ◌+◌}
use native.Mathlib.Omega.{arith}
use borrow.Author.Tests.{ne_eqb}
use Rattle.lists.specs.Lists.{pick}
use Rattle.chains.proofs.Gathering.{gather-next, gather-end}
use Rattle.sound_head.proofs.HeadTest.{bounds, headed}
use Rattle.soundness.proofs.ChainTest.{cell-broken, cell-next, chain-end, gather-start, page-broken, page-next, page-wrong, pages-end, pages-start, walk-start}
use Rattle.soundness.proofs.walk.chains_fit.Goals as goal
use Rattle.soundness.proofs.walk.chains_fit.Goals.{else-pages-test, then-pages-test+then-loop-j-test+in_default, then-pages-test+else-loop-j-test+then-link-ne0}
use Rattle.soundness.proofs.walk.chains_fit.Goals.{then-link-ne0-via-then-link-ne0, then-link-ne0-via-else-link-ne0+then-not-page_fits}

clash : (b : Bool) → b ≡ false → b ≡ true → ⊥
clash b p q = let z : ◌≡◌ {A = ℕ} 0 1 = cc in omega arith

pub of-h-requires : goal.of-h-requires
of-h-requires c = omega (arith, (headed c.args.s.now c.requires).fitting.long)

pub pages-init : goal.pages-init
pages-init c = record { sound = refl; left = pages-start c.args.s.now c.of-h.result c.of-h.ensures }

pub get-sum-requires-clause-in_bounds : goal.get-sum-requires-clause-in_bounds
get-sum-requires-clause-in_bounds c =
    let h = bounds c.args.s.now c.of-h.result c.requires c.of-h.ensures in
    omega arith

pub invariant_of-cells : goal.invariant_of-cells
invariant_of-cells c =
    let h = bounds c.args.s.now c.of-h.result c.requires c.of-h.ensures in
    record { high = omega arith; low = omega arith; size = omega arith; few = h.cells-high }

pub invariant_of-cells-in-pages : goal.invariant_of-cells-in-pages
invariant_of-cells-in-pages c =
    let h = bounds c.args.s.now c.of-h.result c.requires c.of-h.ensures in
    record { high = omega arith; low = omega arith; size = omega arith; few = h.cells-high }

pub invariant_of-cells-then-ok : goal.invariant_of-cells-then-ok
invariant_of-cells-then-ok c =
    let h = bounds c.args.s.now c.of-h.result c.requires c.of-h.ensures in
    elim c.pages-test.branch [
      | else-pages-test w ↦ rw w.cells-is (record { high = omega arith; low = omega arith; size = omega arith; few = h.cells-high })
      | then-pages-test+then-loop-j-test+in_default w ↦ absurd (clash _ w.ok-is c.if-ok.true)
      | then-pages-test+else-loop-j-test+then-link-ne0 w ↦ absurd (clash _ w.ok-is c.if-ok.true)
    ]

pub loop-j-init : goal.loop-j-init
loop-j-init c =
    let h = bounds c.args.s.now c.of-h.result c.requires c.of-h.ensures in
    let i = c.pages.invariant in
    let s = c.args.s.now in
    let k = c.cells_of-k.result in
    let a = c.entry_at-entry.result + 4 in
    record {
      sound = i.sound;
      inside = omega arith;
      walk = walk-start s c.cells_from-base.result c.of-h.result.cells k a c.pages.marks;
      gathered = gather-start s c.cells_from-base.result k a c.pages.code;
    }

pub loop-j-preserved : goal.loop-j-preserved
loop-j-preserved c =
    let s = c.args.s.now in
    let base = c.cells_from-base.result in
    let count = c.of-h.result.cells in
    let k = c.cells_of-k in
    let l = c.loop-j in
    let d = c.in-Some.ensures in
    let r = c.at-at in
    record {
      sound = l.invariant.sound;
      inside = omega arith;
      walk = l.invariant.walk ∙ cell-next s base count k.result l.j l.marks d.0 (omega arith) r.ensures.start d.3;
      gathered =
          gather-next s base _ k.result l.j d.0 (omega arith) r.ensures.start l.code c.put_block.new.s (omega (arith, k.ensures.1))
          r.ensures.inside (rw c.code.ensures.part at c.put_block.ensures) l.invariant.gathered;
    }

pub page_fits-requires : goal.page_fits-requires
page_fits-requires c =
    let h = bounds c.args.s.now c.of-h.result c.requires c.of-h.ensures in (
      record {
        small = omega (arith, c.get-sum.ensures.small);
        page = omega arith;
        hours = c.of-h.ensures.hours-small;
      },
      c.cells_of-k.ensures.0,
    )

pub pages-preserved : goal.pages-preserved
unfolding pick
pages-preserved c =
    let s = c.args.s.now in
    let h = c.of-h.result in
    let o = c.pages in
    let l = c.loop-j in
    record {
      sound = l.invariant.sound;
      left =
          o.invariant.left
          ∙ page-next s h.pages h.cells h.hours o.p o.marks (omega arith) c.cells_from-base.ensures
          c.entry_at-entry.ensures c.get-sum.ensures c.cells_of-k.ensures.0 l.code
          (l.invariant.walk
          ∙ chain-end s c.cells_from-base.result h.cells c.cells_of-k.result l.j l.marks c.link.ensures (omega arith) ∙ rw c.if-link-ne0.false refl)
          (gather-end s c.cells_from-base.result _ c.cells_of-k.result l.j l.at l.code (omega arith) (omega arith) l.invariant.gathered)
          c.page_fits.ensures c.if-not-page_fits.false;
    }

pub returns-then-ok : goal.returns-then-ok
returns-then-ok c =
    let h = c.of-h.result in
    let o = c.pages in
    elim c.pages-test.branch [
      | else-pages-test w ↦
          rw (w.cells-is, w.marks-is) at c.free_fits.ensures
          ∙ pages-end c.args.s.now h.pages h.cells h.hours o.p o.marks (omega (arith, w.pages-test.false)) c.cells_from-base.ensures
          ∙ sym o.invariant.left
      | then-pages-test+then-loop-j-test+in_default w ↦ absurd (clash _ w.ok-is c.if-ok.true)
      | then-pages-test+else-loop-j-test+then-link-ne0 w ↦ absurd (clash _ w.ok-is c.if-ok.true)
    ]

pub returns-else-ok : goal.returns-else-ok
unfolding pick
returns-else-ok c =
    let s = c.args.s.now in
    let h = c.of-h.result in
    let base = c.cells_from-base in
    let o = c.pages in
    elim c.pages-test.branch [
      | else-pages-test w ↦ absurd (clash _ c.if-ok.false (w.ok-is ∙ o.invariant.sound))
      | then-pages-test+then-loop-j-test+in_default w ↦
          let l = w.loop-j in
          w.ok-is
          ∙ page-broken s h.pages h.cells h.hours o.p o.marks (omega (arith, w.pages-test.true)) base.ensures
          w.entry_at-entry.ensures w.get-sum.ensures w.cells_of-k.ensures.0
          (l.invariant.walk
          ∙ cell-broken s base.result h.cells w.cells_of-k.result l.j l.marks l.at (omega (arith, w.loop-j-test.true)) w.in_default.ensures)
          ∙ sym o.invariant.left
      | then-pages-test+else-loop-j-test+then-link-ne0 w ↦
          let l = w.loop-j in
          let k = w.cells_of-k in
          let full = l.invariant.walk ∙ chain-end s base.result h.cells k.result l.j l.marks w.link.ensures (omega (arith, w.loop-j-test.false)) in
          w.ok-is
          ∙ elim w.then-link-ne0.branch [
            | then-link-ne0-via-then-link-ne0 t ↦
                page-broken s h.pages h.cells h.hours o.p o.marks (omega (arith, w.pages-test.true)) base.ensures
                w.entry_at-entry.ensures w.get-sum.ensures k.ensures.0 (full ∙ rw (ne_eqb _ _ t.if-link-ne0.true) refl)
            | then-link-ne0-via-else-link-ne0+then-not-page_fits t ↦
                page-wrong s h.pages h.cells h.hours o.p o.marks (omega (arith, w.pages-test.true)) base.ensures
                w.entry_at-entry.ensures w.get-sum.ensures k.ensures.0 {m' = l.marks} l.code (full ∙ rw t.if-link-ne0.false refl)
                (gather-end s base.result _ k.result l.j l.at l.code (omega (arith, w.loop-j-test.false)) (omega arith) l.invariant.gathered)
                t.page_fits.ensures t.if-not-page_fits.true
          ]
          ∙ sym o.invariant.left
    ]
