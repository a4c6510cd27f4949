-- `sum_marks::marks::Marks::mark` meets its contract. Assumes nothing.
use Rattle.sum_marks.proofs.MarkLaws.{Marking}
use Rattle.sum_marks.proofs.marks.Marks.mark.Given as goal

abbrev pub invariant-loop-count : goal.invariant-loop-count
invariant-loop-count l = Marking l.counts l.count-index l.stamp l.self.stamps l.sum
