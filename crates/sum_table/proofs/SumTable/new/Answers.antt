-- `SumTable::new` meets its contract: every entry is computed. Assumes nothing.
use Rattle.std.proofs.Common.{refl}
use Rattle.sum_table.proofs.EverySum.{sum_at, all_few, summed}
use Rattle.sum_table.proofs.SumTable.new.Goals as goal

pub invariant_of-result : goal.invariant_of-result
unfolding sum_at all_few
invariant_of-result c = record { sums = summed _ refl tt tt }
