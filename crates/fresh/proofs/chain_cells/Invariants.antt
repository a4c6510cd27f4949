-- `fresh::chain_cells` meets its contract. Assumes nothing.
use mathlib.Core.Path.{◌≡◌}
use Prim.Native.Nat.{◌-◌}
use lib.ListN.{length}
use Rattle.fresh.specs.Code.Cells.{chained}
use Rattle.fresh.proofs.chain_cells.Given as goal

abbrev pub invariant-loop-c : goal.invariant-loop-c
invariant-loop-c l = (length l.s ≡ length l.initial.s) × (l.s ≡ chained l.initial.s l.base (l.c - 1))
