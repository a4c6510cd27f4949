-- `tree_lowest::zero_bits` meets its contract. The loop's invariant: the answer is that of the bits that are left to be looked at.
-- Assumes nothing.
use mathlib.Core.Path.{◌≡◌}
use Prim.Native.Nat.{◌+◌, ◌-◌, ◌≤◌}
use Rattle.bits.specs.Bits.{bits}
use Rattle.tree.specs.Code.Exact.{clear}
use Rattle.tree_lowest.proofs.zero_bits.Given as goal

abbrev pub invariant-loop-done : goal.invariant-loop-done
invariant-loop-done l = (l.done ≤ l.n) × (clear (bits l.b) l.at l.n ≡ clear (bits l.b) (l.at + l.done) (l.n - l.done))

abbrev pub decreases-loop-done : goal.decreases-loop-done
decreases-loop-done l = l.n - l.done
