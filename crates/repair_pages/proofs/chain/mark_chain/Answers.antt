-- `repair_pages::chain::mark_chain` meets its contract. Assumes nothing.
use mathlib.Core.Path.{refl, ◌∙◌}
use native.Mathlib.Omega.{arith}
use Rattle.repair_pages.proofs.ChainSteps.{all_left, kept_next, mark-next, mark-start, marks-end}
use Rattle.repair_pages.proofs.chain.mark_chain.Goals as goal

pub loop-init : goal.loop-init
loop-init c =
    let a = c.args in
    let e = a.cells.now in
    let q = c.requires in
    record {
      inside = q.handed.link;
      kept = all_left e.bytes.now e.base e.count a.marks.now a.k a.a ∙ q.kept;
      marked = mark-start e.bytes.now e.base e.count a.marks.now a.k a.a;
    }

pub bounds-marks-c : goal.bounds-marks-c
bounds-marks-c c =
    let a = c.args in
    let e = a.cells.now in
    let l = c.loop in
    omega (arith, kept_next e.bytes.now e.base e.count a.marks.now a.k l.counter c.link-c.ensures (omega arith) refl l.invariant.kept)

pub at-at-requires : goal.at-at-requires
at-at-requires c =
    let a = c.args in
    let e = a.cells.now in
    let l = c.loop in
    let w = kept_next e.bytes.now e.base e.count a.marks.now a.k l.counter c.link-c.ensures (omega arith) refl l.invariant.kept in
    (w.0, w.1)

pub loop-preserved : goal.loop-preserved
loop-preserved c =
    let r = c.at-at in
    let l = c.loop in
    let a = c.args in
    let e = a.cells.now in
    let w = kept_next e.bytes.now e.base e.count a.marks.now a.k l.counter c.link-c.ensures (omega arith) r.ensures.start l.invariant.kept in
    record {
      inside = omega arith;
      kept = w.2;
      marked = mark-next e.bytes.now e.base e.count a.marks.now a.k l.counter c.link-c.ensures (omega arith) r.ensures.start _ l.marks l.invariant.marked;
    }

pub returns : goal.returns
returns c =
    let l = c.loop in
    let a = c.args in
    let e = a.cells.now in
    marks-end e.bytes.now e.base e.count a.marks.now a.k l.counter l.at _ l.marks (omega arith) l.invariant.marked
