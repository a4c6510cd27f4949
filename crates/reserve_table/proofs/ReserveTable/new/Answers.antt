-- `ReserveTable::new` meets its contract: every entry is computed. Assumes nothing.
use Rattle.std.proofs.Common.{refl}
use Rattle.reserve_table.proofs.EveryEntry.{tabled_reserve, tabled}
use Rattle.reserve_table.proofs.ReserveTable.new.Goals as goal

pub invariant_of-result : goal.invariant_of-result
unfolding tabled_reserve
invariant_of-result c = record { tabled = tabled _ refl tt }
