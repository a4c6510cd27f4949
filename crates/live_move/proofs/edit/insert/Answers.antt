-- `live_move::edit::insert` meets its contract. Assumes nothing.
use native.Mathlib.Omega.{arith}
use Rattle.store.proofs.SoundFacts.{facts}
use Rattle.live_move.proofs.EditSteps.{insert-11, insert-3, insert-7, insert-go, insert-shiftable, total-low}
use Rattle.live_move.proofs.edit.insert.Goals as goal

pub of-head-requires : goal.of-head-requires
of-head-requires c = omega (arith, (facts c.args.s.now c.requires).long)

pub returns-then-hours-hour : goal.returns-then-hours-hour
returns-then-hours-hour c =
    insert-7 c.args.i c.args.v c.requires c.of-head.ensures c.if-hours-hour.true

pub returns-then-head-hours : goal.returns-then-head-hours
returns-then-head-hours c =
    insert-11 c.args.i c.args.v c.requires c.of-head.ensures c.if-hours-hour.false c.if-head-hours.true

pub overflow_add-total : goal.overflow_add-total
overflow_add-total c =
    omega (arith, total-low c.args.i c.args.v c.requires c.of-head.ensures c.total.ensures, c.from.ensures, c.ranges.v)

pub returns-then-total-from-gt-MAX_TOTAL : goal.returns-then-total-from-gt-MAX_TOTAL
returns-then-total-from-gt-MAX_TOTAL c =
    insert-3 c.args.i c.args.v c.requires c.of-head.ensures c.if-hours-hour.false c.if-head-hours.false c.total.ensures
    (omega (arith, c.from.ensures, c.if-total-from-gt-MAX_TOTAL.true))

pub carry_out-requires : goal.carry_out-requires
carry_out-requires c =
    rw (c.of-spot.ensures.0, c.of-spot.ensures.1)
    (insert-shiftable c.args.i c.args.v c.requires c.of-head.ensures c.if-hours-hour.false c.if-head-hours.false c.total.ensures
    (omega (arith, c.from.ensures, c.if-total-from-gt-MAX_TOTAL.false)))

pub returns : goal.returns
returns c =
    insert-go c.args.i c.args.v c.requires c.of-head.ensures c.if-hours-hour.false c.if-head-hours.false c.total.ensures
    (rw (c.of-spot.ensures.0, c.of-spot.ensures.1) at c.carry_out.ensures)
