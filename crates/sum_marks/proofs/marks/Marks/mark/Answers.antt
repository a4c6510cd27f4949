-- `sum_marks::marks::Marks::mark` meets its contract. Assumes nothing.
use mathlib.Core.Path.{ap}
use Prim.Native.Nat.{ℕ, ◌+◌}
use native.Mathlib.Omega.{arith}
use Rattle.sum_marks.proofs.MarkLaws.{marking-first, marking-next, sum_fits}
use Rattle.sum_marks.proofs.marks.Marks.mark.Goals as goal

pub loop-count-init : goal.loop-count-init
loop-count-init c = marking-first _ _ _

pub overflow_add-sum : goal.overflow_add-sum
overflow_add-sum c =
    record { fits = omega (arith, sum_fits _ _ _ c.requires c.loop-count-test.true c.loop-count.invariant.sum_is, c.from-sum.ensures) }

pub loop-count-preserved : goal.loop-count-preserved
loop-count-preserved c =
    marking-next _ _ _ _ _ _ c.loop-count-test.true (omega arith) (ap (λ (v : ℕ). c.loop-count.sum + v) c.from-sum.ensures) c.loop-count.invariant
