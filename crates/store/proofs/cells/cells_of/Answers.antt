-- `store::cells::cells_of` meets its contract. Assumes nothing.
use mathlib.Core.Path.{ap, ◌∙◌}
use Prim.Native.Nat.{ℕ, ◌+◌, ◌/◌}
use native.Mathlib.Omega.{arith}
use Rattle.reserve.proofs.Fit.{most}
use Rattle.store.proofs.PageCodeLaws.{cells_is, cells-most}
use Rattle.store.proofs.cells.cells_of.Goals as goal

pub overflow_add-result : goal.overflow_add-result
overflow_add-result c = omega (arith, c.reserve_of.ensures, most c.args.s (omega arith))

pub returns : goal.returns
returns c =
    let e = ap (λ (z : ℕ). (z + 239) / 240) c.reserve_of.ensures ∙ cells_is c.args.s in
    (e, omega (arith, e, cells-most c.args.s c.requires))
