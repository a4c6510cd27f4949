-- `live_move::carry::carry_out` meets its contract. Assumes nothing.
use mathlib.Core.Path.{refl}
use native.Mathlib.Omega.{arith}
use Rattle.move_plan.proofs.PlanSteps.{pages-few}
use Rattle.live_move.proofs.CarrySteps.{carried-12, carried-now, enough-now, header-in, sum-few}
use Rattle.live_move.proofs.carry.carry_out.Goals as goal

pub of-head-requires : goal.of-head-requires
of-head-requires c = header-in c.requires.0

pub cells_from-requires : goal.cells_from-requires
cells_from-requires c = c.of-head.ensures.pages-small

pub look_up-requires : goal.look_up-requires
look_up-requires c =
    let h = c.requires.0 in
    record { shiftable = h; end_in_bounds = (pages-few h, pages-few h) }

pub size_up-had-requires : goal.size_up-had-requires
size_up-had-requires c =
    let h = c.requires.0 in
    let w = c.look_up in
    record { shiftable = (h, omega (arith, pages-few h, w.auto.leaving), omega (arith, pages-few h, w.auto.old), pages-few h); leaves = (w.ensures.leaves, w.ensures.counted) }

pub overflow_add-had : goal.overflow_add-had
overflow_add-had c = omega (arith, sum-few c.requires.0 c.of-head.ensures c.size_up-had.ensures.needs)

pub returns-then-had-head : goal.returns-then-had-head
returns-then-had-head c = carried-12 c.requires.0 c.of-head.ensures c.size_up-had.ensures.needs c.if-had-head.true

pub move_all-requires : goal.move_all-requires
move_all-requires c =
    let h = c.requires.0 in
    let w = c.look_up in
    let n = c.size_up-had in (
      enough-now h c.of-head.ensures n.ensures.needs c.if-had-head.false _ refl c.cells_from.ensures refl w.ensures.leaves w.ensures.counted
          n.ensures.counted (omega (arith, pages-few h, w.auto.leaving)) (omega (arith, pages-few h, w.auto.old)) (omega (arith, pages-few h, n.auto.new)),
      c.requires.1,
    )

pub returns : goal.returns
returns c =
    carried-now c.requires.0 c.of-head.ensures c.size_up-had.ensures.needs c.if-had-head.false c.move_all.ensures c.between.ensures.0
    c.between.ensures.1
