-- `live_repair::may_repair` meets its contract. Assumes nothing.
use mathlib.Core.Path.{sym}
use native.Mathlib.Omega.{arith}
use Rattle.store.proofs.ShapeLaws.{shaped}
use Rattle.live_repair.proofs.CallSteps.{room-left, shape-no}
use Rattle.live_repair.proofs.may_repair.Goals as goal

pub returns-then-not-shape_fits : goal.returns-then-not-shape_fits
returns-then-not-shape_fits c =
    let a = c.args in
    shape-no a.s.now a.entries (sym c.if-not-shape_fits.ensures)

pub of-h-requires : goal.of-h-requires
of-h-requires c = omega (arith, (shaped c.args.s.now (sym c.if-not-shape_fits.ensures)).fitting.long)

pub returns : goal.returns
returns c =
    let a = c.args in
    room-left a.s.now a.entries c.of-h.ensures.pages-is (sym c.if-not-shape_fits.ensures)
