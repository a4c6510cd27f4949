-- `store::total::page_sums` meets its contract. The loop's invariant: the sum of the pages that were passed. Assumes nothing.
use mathlib.Core.Path.{◌≡◌}
use Prim.Native.Nat.{◌*◌, ◌≤◌}
use Rattle.lists.specs.Lists.{sum, tabulate}
use Rattle.store.specs.Reading.{sum_in}
use Rattle.store.proofs.total.page_sums.Given as goal

abbrev pub invariant-loop-p : goal.invariant-loop-p
invariant-loop-p l = (l.all ≡ sum (tabulate l.p (sum_in l.s))) × (l.all ≤ 4294967295 * l.p)
