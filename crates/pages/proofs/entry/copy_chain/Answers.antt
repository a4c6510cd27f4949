-- `pages::entry::copy_chain` meets its contract. The loop's invariant: what the bytes will be in the end is what they are once the codes
-- of the cells that are left are put behind those that were copied. Assumes nothing.
use mathlib.Core.Path.{◌≡◌, refl, sym, ◌∙◌}
use Prim.Native.Nat.{◌+◌, ◌-◌, ◌*◌}
use native.Mathlib.Omega.{arith}
use Rattle.lists.proofs.Parts.{length_part}
use Rattle.chains.proofs.LinkSteps.{step_of}
use Rattle.pages.proofs.Gathering.{all-copied, turned}
use Rattle.pages.proofs.entry.copy_chain.Goals as goal

pub loop-j-init : goal.loop-j-init
loop-j-init c =
    let a = c.args in
    let e : a.k - 0 ≡ a.k = omega arith in
    (refl, rw e c.requires.2, rw e)

pub link-requires : goal.link-requires
link-requires c =
    let a = c.args in
    let l = c.loop-j in
    (step_of a.s.now a.base l.at (a.k - l.j) (a.k - (l.j + 1)) (omega arith) l.invariant.1).fits

pub cell_at-at-requires : goal.cell_at-at-requires
cell_at-at-requires c =
    let a = c.args in
    let l = c.loop-j in
    let w = step_of a.s.now a.base l.at (a.k - l.j) (a.k - (l.j + 1)) (omega arith) l.invariant.1 in
    omega (arith, w.cell, c.link.ensures.is, c.link.ensures.small)

pub put_block-requires : goal.put_block-requires
put_block-requires c =
    let a = c.args in
    let l = c.loop-j in
    let w = step_of a.s.now a.base l.at (a.k - l.j) (a.k - (l.j + 1)) (omega arith) l.invariant.1 in
    let r = c.cell_at-at.result in
    let n : r + 32 - (r + 2) ≡ 30 = omega arith in
    (omega arith, rw n (length_part a.s.now (r + 2) 30 (rw (c.cell_at-at.ensures, c.link.ensures.is) (omega (arith, w.room)))))

pub loop-j-preserved : goal.loop-j-preserved
loop-j-preserved c =
    let l = c.loop-j in
    let a = c.args in
    let e = c.cell_at-at in
    let p = c.put_block in
    let n : e.result + 32 - (e.result + 2) ≡ 30 = omega arith in
    let w =
    turned a.s.now l.out p.new.s a.base l.at c.link.result e.result a.k l.j (omega arith) l.invariant.1 (omega arith)
    c.link.ensures.is e.ensures (rw n at p.ensures) in
    (p.auto.s ∙ l.invariant.0, w.0, l.invariant.2 ∙ w.1)

pub returns : goal.returns
returns c =
    let a = c.args in
    let l = c.loop-j in
    all-copied a.s.now l.out a.base l.at (a.k - l.j) (30 * l.j) (omega arith) ∙ sym l.invariant.2
