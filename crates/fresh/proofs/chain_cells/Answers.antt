-- `fresh::chain_cells` meets its contract. Assumes nothing.
use mathlib.Core.Path.{refl, ap, ◌∙◌}
use mathlib.Core.List.{List}
use Prim.Native.Nat.{ℕ, ◌+◌, ◌-◌}
use native.Mathlib.Omega.{arith}
use lib.ListN.{length}
use Rattle.fresh.specs.Code.Cells.{chained}
use Rattle.fresh.proofs.FreshBytes.{chained-none, chained-next, chained-length}
use Rattle.fresh.proofs.chain_cells.Goals as goal

pub loop-c-init : goal.loop-c-init
loop-c-init c = (refl, chained-none c.args.s.now c.args.base)

pub loop-c-preserved : goal.loop-c-preserved
loop-c-preserved c =
    let a = c.args in
    let l = c.loop-c in
    let e = chained-next a.s.now l.s _ a.base l.c _ (omega arith) l.invariant.1 c.cell_at.ensures
    c.put.ensures in
    (ap (λ (z : List ℕ). length z) e ∙ chained-length a.s.now a.base (l.c + 1 - 1), e)

pub returns : goal.returns
returns c =
    let a = c.args in
    let l = c.loop-c in
    l.invariant.1 ∙ ap (λ (z : ℕ). chained a.s.now a.base (z - 1)) {x = l.c} {y = a.cells} (omega arith)
