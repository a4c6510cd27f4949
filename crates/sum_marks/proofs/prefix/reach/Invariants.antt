-- `sum_marks::prefix::reach` meets its contract. Assumes nothing.
use Rattle.sum_marks.specs.Code.Prefix.{PrefixOf}
use Rattle.sum_marks.proofs.prefix.reach.Given as goal

abbrev pub invariant-loop-hours : goal.invariant-loop-hours
invariant-loop-hours l = PrefixOf l.counts l.want (record { hours = l.hours; sum = l.sum })
