-- `live_change::append` meets its contract. Assumes nothing.
use native.Mathlib.Omega.{arith}
use Rattle.store.proofs.SoundFacts.{facts}
use Rattle.store.proofs.CallLaws.{append-11, append-asks, append-go}
use Rattle.live_change.proofs.AppendTotal.{append-3}
use Rattle.live_change.proofs.append.Goals as goal

pub of-head-requires : goal.of-head-requires
of-head-requires c = omega (arith, (facts c.args.s.now c.requires).long)

pub returns-then-head : goal.returns-then-head
returns-then-head c =
    append-11 c.args.v c.requires c.of-head.ensures c.if-head.true

pub overflow_add-total : goal.overflow_add-total
overflow_add-total c =
    omega (arith, c.total.ensures, (facts c.args.s.now c.requires).total-fits, c.from.ensures, c.ranges.v)

pub returns-then-total-from-gt-MAX_TOTAL : goal.returns-then-total-from-gt-MAX_TOTAL
returns-then-total-from-gt-MAX_TOTAL c =
    append-3 c.args.v c.requires c.of-head.ensures c.if-head.false c.total.ensures
    (omega (arith, c.from.ensures, c.if-total-from-gt-MAX_TOTAL.true))

pub change_hour-requires : goal.change_hour-requires
change_hour-requires c =
    let h = c.of-head.ensures in
    (append-asks c.args.v c.requires h c.if-head.false, omega (arith, h.hours-is))

pub returns : goal.returns
returns c =
    append-go c.args.v c.requires c.of-head.ensures c.if-head.false c.change_hour.ensures
