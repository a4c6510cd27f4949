-- `chains::fill::fill` meets its contract. Assumes nothing.
use mathlib.Core.Path.{◌≡◌, refl, sym, ◌∙◌}
use Prim.Native.Nat.{◌+◌, ◌-◌, ◌*◌}
use native.Mathlib.Omega.{arith}
use lib.ListN.{drop}
use Rattle.store.proofs.Filling.{fill-next, fill-again, fill_done}
use Rattle.chains.proofs.fill.fill.Goals as goal

pub loop-j-init : goal.loop-j-init
loop-j-init c =
    let a = c.args in
    let e : a.n - 0 ≡ a.n = omega arith in
    (refl, rw e c.requires.2, rw e)

pub link-requires : goal.link-requires
link-requires c =
    let a = c.args in
    let l = c.loop-j in
    (fill-next l.s a.base l.at (a.n - l.j) (drop (30 * l.j) a.code.now) (omega arith) l.invariant.1).fits

pub cell_at-at-requires : goal.cell_at-at-requires
cell_at-at-requires c =
    let a = c.args in
    let l = c.loop-j in
    let w = fill-next l.s a.base l.at (a.n - l.j) (drop (30 * l.j) a.code.now) (omega arith) l.invariant.1 in
    omega (arith, w.cell, c.link.ensures.is, c.link.ensures.small)

pub put_block-requires : goal.put_block-requires
put_block-requires c =
    let a = c.args in
    let l = c.loop-j in
    let w = fill-next l.s a.base l.at (a.n - l.j) (drop (30 * l.j) a.code.now) (omega arith) l.invariant.1 in
    (rw (c.cell_at-at.ensures, c.link.ensures.is) (omega (arith, w.room)), omega arith)

pub loop-j-preserved : goal.loop-j-preserved
loop-j-preserved c =
    let a = c.args in
    let l = c.loop-j in
    let e = c.cell_at-at.ensures in
    let b : 30 * l.j + 30 - 30 * l.j ≡ 30 = omega arith in
    let f = (rw (b, e) at c.put_block.ensures) in
    let w =
    fill-again l.s c.put_block.new.s a.base l.at c.link.result a.n l.j a.code.now (omega arith)
    l.invariant.1
    c.link.ensures.is f in
    (omega arith, rw e w.0, l.invariant.2 ∙ rw e w.1)

pub returns : goal.returns
returns c =
    let a = c.args in
    let l = c.loop-j in
    sym (l.invariant.2 ∙ fill_done l.s a.base l.at (a.n - l.j) (drop (30 * l.j) a.code.now) (omega arith))
