-- `repair_pages::chain::mark_chain` meets its contract. Assumes nothing.
use mathlib.Core.Path.{◌≡◌}
use mathlib.Core.Bool.{true}
use Prim.Native.Nat.{◌+◌, ◌≤◌}
use lib.ListN.{length}
use Rattle.bits.specs.Numbers.{number_at}
use Rattle.repair_pages.proofs.ChainSteps.{MarkedOn, kept_on}
use Rattle.repair_pages.proofs.chain.mark_chain.Given as goal

abbrev pub invariant-loop : goal.invariant-loop
invariant-loop l = record {
  inside : l.at + 2 ≤ length l.cells.bytes.now;
  kept : kept_on l.cells.bytes.now l.cells.base l.cells.count l.initial.marks l.k l.counter l.at ≡ true;
  marked : MarkedOn l.cells.bytes.now l.cells.base l.cells.count l.initial.marks (number_at l.cells.bytes.now l.a 2) l.k l.counter l.marks l.at;
}
