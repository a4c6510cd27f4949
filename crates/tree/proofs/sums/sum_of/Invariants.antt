-- `tree::sums::sum_of` meets its contract. The loop's invariant: the total is the sum of the window that was passed, and a count is
-- below 2^32. Assumes nothing.
use mathlib.Core.Path.{◌≡◌}
use Prim.Native.Nat.{◌-◌, ◌*◌, ◌≤◌, max}
use Rattle.lists.specs.Lists.{sum, window}
use Rattle.tree.proofs.sums.sum_of.Given as goal

abbrev pub invariant-loop-i : goal.invariant-loop-i
invariant-loop-i l =
    record { within : l.i ≤ max l.from l.end; total_is : l.total ≡ sum (window l.counts l.from (l.i - l.from)); small : l.total ≤ 4294967295 * (l.i - l.from) }
