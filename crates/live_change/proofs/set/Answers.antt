-- `live_change::set` meets its contract. Assumes nothing.
use native.Mathlib.Omega.{arith}
use Rattle.store.proofs.SoundFacts.{facts}
use Rattle.store.proofs.CallLaws.{set-7, set-asks, set-go}
use Rattle.live_change.proofs.set.Goals as goal

pub of-head-requires : goal.of-head-requires
of-head-requires c = omega (arith, (facts c.args.s.now c.requires).long)

pub returns-then-head-i : goal.returns-then-head-i
returns-then-head-i c =
    set-7 c.args.i c.args.v c.requires c.of-head.ensures c.if-head-i.true

pub change_hour-requires : goal.change_hour-requires
change_hour-requires c =
    let h = c.of-head.ensures in
    (set-asks c.args.i c.args.v c.requires h c.if-head-i.false, omega (arith, h.hours-is, c.if-head-i.false))

pub returns : goal.returns
returns c =
    set-go c.args.i c.args.v c.requires c.of-head.ensures
    c.if-head-i.false c.change_hour.ensures
