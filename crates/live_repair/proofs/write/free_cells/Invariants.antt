-- `live_repair::free_cells` meets its contract. The invariant: the cells above c are done. Assumes nothing.
use Prim.Native.Nat.{◌-◌, ◌≤◌}
use Rattle.live_repair.proofs.WriteSteps.{Above}
use Rattle.live_repair.proofs.write.free_cells.Given as goal

abbrev pub invariant-loop-c : goal.invariant-loop-c
invariant-loop-c l = (l.free ≤ l.cells - l.c) × Above l.initial.s l.s l.base l.marks l.cells l.c l.next l.free
