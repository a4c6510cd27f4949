-- `sound_free::free_fits` meets its contract. The loop's invariant: the answer is that of the cells that are left. Assumes nothing.
use mathlib.Core.Path.{◌≡◌}
use Prim.Native.Nat.{◌+◌, ◌-◌, ◌≤◌}
use lib.ListN.{length}
use Rattle.sound_free.specs.Code.Free.{free_chain_fits, free_from}
use Rattle.sound_free.proofs.free_fits.Given as goal

abbrev pub invariant-loop : goal.invariant-loop
invariant-loop l = record {
  inside : l.at + 2 ≤ length l.cells.bytes.now;
  left : free_chain_fits l.cells.bytes.now l.cells.base l.cells.count l.initial.marks
      ≡ free_from l.cells.bytes.now l.cells.base l.cells.count (l.end - l.counter) l.marks l.at;
}
