-- `soundness::walk::chains_fit` meets its contract. The invariants: the answer is that of the pages, and of the page's cells, that are
-- left; the code of the cells that were passed is gathered. Assumes nothing.
use mathlib.Core.Path.{◌≡◌}
use mathlib.Core.Bool.{true}
use Prim.Native.Nat.{◌+◌, ◌-◌, ◌≤◌}
use lib.ListN.{length}
use Rattle.bits.specs.Numbers.{number_at}
use Rattle.store.specs.Reading.{chain_from, code_in}
use Rattle.store.specs.Code.Checked.{walk_marks}
use Rattle.soundness.specs.Code.Chains.{all_chains_fit}
use Rattle.chains.proofs.Gathering.{SoFar}
use Rattle.soundness.proofs.ChainTest.{pages_on}
use Rattle.soundness.proofs.walk.chains_fit.Given as goal

abbrev pub invariant-loop-j : goal.invariant-loop-j
invariant-loop-j l = record {
  sound : l.ok ≡ true;
  inside : l.at + 2 ≤ length l.s;
  walk : walk_marks l.s l.base l.h.cells l.k l.initial.marks l.initial.at
      ≡ walk_marks l.s l.base l.h.cells (l.k - l.j) l.marks l.at;
  gathered : SoFar l.s l.base (code_in l.s l.base (chain_from l.s l.base l.k (number_at l.s l.initial.at 2))) l.k l.j l.code l.at;
}

abbrev pub invariant-pages : goal.invariant-pages
invariant-pages l = record {
  sound : l.ok ≡ true;
  left : all_chains_fit l.s ≡ pages_on l.s l.h.pages l.h.cells l.h.hours l.p l.marks;
}
