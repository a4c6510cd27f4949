-- `live_repair::free_cells` meets its contract. The invariant: the cells above c are done. Assumes nothing.
use Prim.Native.Nat.{◌+◌}
use native.Mathlib.Omega.{arith}
use borrow.Author.Tests.{eq-eqb, ne_eqb}
use Rattle.live_repair.proofs.WriteSteps.{above-end, above-no, above-start, above-yes, filled-sets}
use Rattle.live_repair.proofs.write.free_cells.Goals as goal
use Rattle.live_repair.proofs.write.free_cells.Goals.{then-marks-c-eq0, else-marks-c-eq0}

pub loop-c-init : goal.loop-c-init
loop-c-init c =
    let a = c.args in
    (omega arith, above-start a.s.now a.base a.marks.now a.cells)

pub loop-c-preserved : goal.loop-c-preserved
loop-c-preserved c =
    let l = c.loop-c in
    let a = c.args in
    let t = c.loop-c-test.true in
    elim c.if-marks-c-eq0.branch [
      | then-marks-c-eq0 w ↦
          let r = w.cell_at-at.result in (
            omega (arith, w.free-is),
            above-yes a.s.now l.s a.base a.marks.now a.cells l.c l.next l.free t (omega arith) l.invariant.1
                (eq-eqb _ _ w.if-marks-c-eq0.true) w.cell_at-at.ensures w.put.ensures
                (filled-sets w.put.new.s (r + 2) 30 (w.fill.ensures.after (λ y h. h)) (omega arith) (omega arith))
                w.s-is w.next-is w.free-is,
          )
      | else-marks-c-eq0 w ↦ (
        omega (arith, w.free-is),
        above-no a.s.now l.s a.base a.marks.now a.cells l.c l.next l.free t (omega arith) l.invariant.1
            (ne_eqb _ _ w.if-marks-c-eq0.false) w.s-is w.next-is w.free-is,
      )
    ]

pub returns : goal.returns
returns c =
    let l = c.loop-c in
    let a = c.args in
    above-end a.s.now l.s _ _ a.base a.marks.now a.cells l.c l.next l.free (omega arith) l.invariant.1
    c.put-2.ensures c.put-3.ensures
