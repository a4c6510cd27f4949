-- `sum_marks::prefix::reach` meets its contract. Assumes nothing.
use native.Mathlib.Omega.{arith}
use Rattle.sum_marks.proofs.MarkLaws.{sum_fits}
use Rattle.sum_marks.proofs.PrefixLaws.{prefix-more, tried-reached}
use Rattle.sum_marks.proofs.prefix.reach.Goals as goal

pub loop-hours-preserved : goal.loop-hours-preserved
loop-hours-preserved c =
    prefix-more _ _ _ _ _ c.loop-hours.invariant c.loop-hours-test.true c.if-want-sum.false c.from-sum.ensures

pub overflow_add-sum : goal.overflow_add-sum
overflow_add-sum c =
    record { fits = omega (arith, sum_fits _ _ _ c.requires.0 c.loop-hours-test.true c.loop-hours.invariant.sum_is, c.from-sum.ensures) }

pub returns-then-want-sum : goal.returns-then-want-sum
returns-then-want-sum c = tried-reached _ _ _ c.loop-hours.invariant (λ m. absurd (omega (arith, m, c.if-want-sum.true)))
