-- `live_move::edit::strike` meets its contract. Assumes nothing.
use native.Mathlib.Omega.{arith}
use Rattle.store.proofs.SoundFacts.{facts}
use Rattle.live_move.proofs.EditSteps.{strike-7, strike-go, strike-shiftable}
use Rattle.live_move.proofs.edit.strike.Goals as goal

pub of-head-requires : goal.of-head-requires
of-head-requires c = omega (arith, (facts c.args.s.now c.requires).long)

pub returns-then-hours-hour : goal.returns-then-hours-hour
returns-then-hours-hour c =
    strike-7 c.args.i c.requires c.of-head.ensures c.if-hours-hour.true

pub carry_out-requires : goal.carry_out-requires
carry_out-requires c =
    rw (c.of-spot.ensures.0, c.of-spot.ensures.1) (strike-shiftable c.args.i c.requires c.of-head.ensures c.if-hours-hour.false)

pub returns : goal.returns
returns c =
    strike-go c.args.i c.requires c.of-head.ensures c.if-hours-hour.false (rw (c.of-spot.ensures.0, c.of-spot.ensures.1) at c.carry_out.ensures)
