-- `freeze_plan::add_ending` meets its contract. Assumes nothing.
use native.Mathlib.Omega.{arith}
use Rattle.freeze_plan.proofs.PageEnds.{ending, total-le}
use Rattle.freeze_plan.proofs.add_ending.Goals as goal

pub overflow_sub-all : goal.overflow_sub-all
overflow_sub-all c = total-le c.requires c.if-plan-end.true

pub add_page-requires : goal.add_page-requires
add_page-requires c = ending c.requires c.if-plan-end.true

pub returns-then-plan-end : goal.returns-then-plan-end
returns-then-plan-end c a =
    let l = c.if-plan-end.true in
    (c.add_page.ensures.1 (ending a l), omega (arith, c.add_page.ensures.0, (a.next l).0))

pub returns : goal.returns
returns c a = (a.drafted, c.if-plan-end.false)
