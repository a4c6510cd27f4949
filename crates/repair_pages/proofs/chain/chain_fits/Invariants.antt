-- `repair_pages::chain::chain_fits` meets its contract. Assumes nothing.
use mathlib.Core.Path.{◌≡◌}
use Prim.Native.Nat.{◌+◌, ◌≤◌}
use lib.ListN.{length}
use Rattle.bits.specs.Numbers.{number_at}
use Rattle.store.specs.Reading.{chain_from, code_in}
use Rattle.repair_pages.specs.Code.Chain.{chain_kept}
use Rattle.chains.proofs.Gathering.{SoFar}
use Rattle.repair_pages.proofs.ChainSteps.{kept_on}
use Rattle.repair_pages.proofs.chain.chain_fits.Given as goal

abbrev pub invariant-loop-j : goal.invariant-loop-j
invariant-loop-j l = record {
  inside : l.at + 2 ≤ length l.cells.bytes.now;
  kept : chain_kept l.cells.bytes.now l.cells.base l.cells.count l.marks l.k (number_at l.cells.bytes.now l.a 2)
      ≡ kept_on l.cells.bytes.now l.cells.base l.cells.count l.marks l.k l.j l.at;
  gathered : SoFar l.cells.bytes.now l.cells.base
      (code_in l.cells.bytes.now l.cells.base (chain_from l.cells.bytes.now l.cells.base l.k (number_at l.cells.bytes.now l.a 2))) l.k l.j l.code l.at;
}
