-- `fresh::fresh` meets its contract. Assumes nothing.
use mathlib.Core.Path.{◌≡◌, sym}
use mathlib.Core.Bool.{true}
use native.Mathlib.Omega.{arith}
use Rattle.store.specs.Fitting.{fits}
use Rattle.fresh.proofs.FreshBytes.{started, started-9}
use Rattle.store.proofs.LimitLaws.{fitting}
use Rattle.fresh.proofs.fresh.Goals as goal

pub returns-then-not-fits : goal.returns-then-not-fits
returns-then-not-fits c =
    let a = c.args in
    started-9 a.s.now a.pages a.cells (sym c.if-not-fits.ensures)

pub fresh-requires : goal.fresh-requires
fresh-requires c =
    let a = c.args in
    let e : fits a.s.now a.pages a.cells ≡ true = sym c.if-not-fits.ensures in
    let w = fitting a.s.now a.pages a.cells e in
    w.limits.cells_low

pub put_header-requires : goal.put_header-requires
put_header-requires c =
    let a = c.args in
    let e : fits a.s.now a.pages a.cells ≡ true = sym c.if-not-fits.ensures in
    let w = fitting a.s.now a.pages a.cells e in
    omega (arith, w.long)

pub cells_from-requires : goal.cells_from-requires
cells_from-requires c =
    let a = c.args in
    let e : fits a.s.now a.pages a.cells ≡ true = sym c.if-not-fits.ensures in
    let w = fitting a.s.now a.pages a.cells e in
    omega (arith, w.limits.pages-high)

pub chain_cells-requires : goal.chain_cells-requires
chain_cells-requires c =
    let a = c.args in
    let e : fits a.s.now a.pages a.cells ≡ true = sym c.if-not-fits.ensures in
    let w = fitting a.s.now a.pages a.cells e in
    let b = c.cells_from.ensures in
    (omega (arith, b, w.limits.pages-high), w.limits.cells_low, w.limits.cells-high, omega (arith, b, w.long))

pub returns : goal.returns
returns c =
    let a = c.args in
    let e : fits a.s.now a.pages a.cells ≡ true = sym c.if-not-fits.ensures in
    let k = c.fresh.ensures in
    let h = c.put_header.ensures in
    let b = c.cells_from.ensures in
    started a.s.now a.pages a.cells _ _ _ _ e
    (c.fill.ensures.after (λ y h. h)) k h
    b c.chain_cells.ensures
