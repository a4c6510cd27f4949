-- `live_repair::repair` meets its contract. Assumes nothing.
use mathlib.Core.Path.{refl, sym, ap, ◌∙◌}
use native.Mathlib.Omega.{arith}
use lib.ListN.{length}
use Rattle.repair.proofs.Restored.{repairs-shaped}
use Rattle.live_repair.proofs.Parts.{dropped-length}
use Rattle.live_repair.proofs.CallSteps.{droppable, refused-so, repaired-so}
use Rattle.live_repair.proofs.repair.Goals as goal

pub returns-then-not-may_repair : goal.returns-then-not-may_repair
returns-then-not-may_repair c =
    let a = c.args in
    refused-so a.s.now a.lost.now (sym c.if-not-may_repair.ensures)

pub of-h-requires : goal.of-h-requires
of-h-requires c = omega (arith, (repairs-shaped c.args.s.now (length c.args.lost.now) (sym c.if-not-may_repair.ensures)).0.fitting.long)

pub list_lost-n-requires : goal.list_lost-n-requires
list_lost-n-requires c =
    let w = repairs-shaped c.args.s.now (length c.args.lost.now) (sym c.if-not-may_repair.ensures) in
    record { fitting = w.0.fitting; unmarked = refl; room = w.1 }

pub drop_pages-requires : goal.drop_pages-requires
drop_pages-requires c =
    let a = c.args in
    droppable a.s.now a.lost.now _ _ c.list_lost-n.result _ c.of-h.ensures.pages-is (repairs-shaped c.args.s.now (length c.args.lost.now) (sym c.if-not-may_repair.ensures)).0 c.list_lost-n.ensures

pub free_cells-requires : goal.free_cells-requires
free_cells-requires c =
    let f = (repairs-shaped c.args.s.now (length c.args.lost.now) (sym c.if-not-may_repair.ensures)).0.fitting in
    let h = c.of-h.ensures in
    let b = c.cells_from.ensures in
    record {
      high = omega (arith, b);
      low = omega (arith, b, h.pages-is, f.limits.pages-high);
      size = ap length c.drop_pages.ensures ∙ dropped-length _ _ ∙ omega (arith, b, h.pages-is, h.cells_is, f.long);
      few = omega (arith, h.cells_is, f.limits.cells-high);
    }

pub returns : goal.returns
returns c =
    let a = c.args in
    let h = c.of-h.ensures in
    repaired-so a.s.now a.lost.now _ _ c.list_lost-n.result _ h.pages-is (repairs-shaped c.args.s.now (length c.args.lost.now) (sym c.if-not-may_repair.ensures)).0 c.list_lost-n.ensures
    (sym c.if-not-may_repair.ensures) (λ i. omega (arith, c.slice_known-1.given i))
    c.cells_from.ensures h.cells_is _ _ c.drop_pages.ensures c.free_cells.ensures
