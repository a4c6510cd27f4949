-- `chains::links::link_after` meets its contract. Assumes nothing.
use mathlib.Core.Path.{◌≡◌, sym, ◌∙◌}
use Prim.Native.Nat.{◌+◌, ◌-◌}
use native.Mathlib.Omega.{arith}
use Rattle.chains.proofs.LinkSteps.{step_of, steps-fit}
use Rattle.chains.proofs.links.link_after.Goals as goal

pub loop-init : goal.loop-init
loop-init c =
    let a = c.args in
    let e : a.k - 0 ≡ a.k = omega arith in
    (rw e c.requires.1, rw e)

pub link-requires : goal.link-requires
link-requires c =
    let a = c.args in
    let l = c.loop in
    (step_of a.s.now a.base l.at (a.k - l.counter) (a.k - (l.counter + 1)) (omega arith) l.invariant.0).fits

pub cell_at-at-requires : goal.cell_at-at-requires
cell_at-at-requires c =
    let a = c.args in
    let l = c.loop in
    let w = step_of a.s.now a.base l.at (a.k - l.counter) (a.k - (l.counter + 1)) (omega arith) l.invariant.0 in
    omega (arith, w.cell, c.link.ensures.is, c.link.ensures.small)

pub loop-preserved : goal.loop-preserved
loop-preserved c =
    let a = c.args in
    let l = c.loop in
    let w = step_of a.s.now a.base l.at (a.k - l.counter) (a.k - (l.counter + 1)) (omega arith) l.invariant.0 in
    let e = c.cell_at-at.ensures in
    let i = c.link.ensures.is in
    (rw (e, i) w.more, rw (e, i) (l.invariant.1 ∙ w.same))

pub returns : goal.returns
returns c =
    let a = c.args in
    let l = c.loop in
    let w = steps-fit a.s.now a.base l.at (a.k - l.counter) (omega arith) l.invariant.0 in
    (sym (l.invariant.1 ∙ w.1), w.0)
