-- `store::limits::fits` meets its contract. Assumes nothing.
use mathlib.Core.Path.{sym, ap, ◌∙◌}
use Prim.Native.Nat.{ℕ, ◌+◌, ◌*◌}
use lib.ListN.{length}
use lib.Dec.{eqb}
use Rattle.store.proofs.LimitLaws.{just-length, wrong-cells, wrong-pages}
use Rattle.store.proofs.limits.fits.Goals as goal

pub returns-then-not-one_to : goal.returns-then-not-one_to
returns-then-not-one_to c =
    let a = c.args in
    wrong-pages a.s.now a.pages a.cells (sym c.if-not-one_to.ensures.value)

pub returns-then-not-one_to-2 : goal.returns-then-not-one_to-2
returns-then-not-one_to-2 c =
    let a = c.args in
    wrong-cells a.s.now a.pages a.cells (sym c.if-not-one_to.ensures.value) (sym c.if-not-one_to-2.ensures.value)

pub returns : goal.returns
returns c =
    let a = c.args in
    ap (λ (z : ℕ). eqb (length a.s.now) (z + 32 * a.cells)) c.cells_from.ensures
    ∙ just-length a.s.now a.pages a.cells (sym c.if-not-one_to.ensures.value) (sym c.if-not-one_to-2.ensures.value)
