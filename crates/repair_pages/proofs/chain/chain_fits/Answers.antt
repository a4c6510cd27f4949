-- `repair_pages::chain::chain_fits` meets its contract. Assumes nothing.
use mathlib.Core.Path.{sym, ◌∙◌}
use native.Mathlib.Omega.{arith}
use Rattle.chains.proofs.Gathering.{gather-end, gather-next}
use Rattle.repair_pages.proofs.ChainSteps.{all_left, cell-broken, cell-next, chain-end, gather-start}
use Rattle.repair_pages.proofs.chain.chain_fits.Goals as goal

pub loop-j-init : goal.loop-j-init
loop-j-init c =
    let a = c.args in
    let e = a.cells.now in
    let q = c.requires in
    record {
      inside = q.link;
      kept = sym (all_left e.bytes.now e.base e.count a.marks.now a.k a.a);
      gathered = gather-start e.bytes.now e.base e.count a.marks.now a.k a.a a.code.now;
    }

pub returns-in_default : goal.returns-in_default
returns-in_default c =
    let l = c.loop-j in
    let a = c.args in
    let e = a.cells.now in
    record {
      is = cell-broken e.bytes.now e.base e.count a.marks.now a.k l.j l.at (omega arith) c.in_default.ensures ∙ sym l.invariant.kept;
      gathered = λ e. cc;
    }

pub loop-j-preserved : goal.loop-j-preserved
loop-j-preserved c =
    let r = c.at-at in
    let k = c.in-Some.ensures in
    let l = c.loop-j in
    let a = c.args in
    let e = a.cells.now in
    record {
      inside = omega arith;
      kept = l.invariant.kept ∙ cell-next e.bytes.now e.base e.count a.marks.now a.k l.j k.0 (omega arith) r.ensures.start k.3;
      gathered =
          gather-next e.bytes.now e.base _ a.k l.j k.0 (omega arith) r.ensures.start l.code c.put_block.new.s (omega arith)
          r.ensures.inside (rw c.code.ensures.part at c.put_block.ensures) l.invariant.gathered;
    }

pub returns : goal.returns
returns c =
    let k = c.link in
    let l = c.loop-j in
    let a = c.args in
    let e = a.cells.now in
    record {
      is = chain-end e.bytes.now e.base e.count a.marks.now a.k l.j k.ensures (omega arith) ∙ sym l.invariant.kept;
      gathered = λ _. gather-end a.cells.now.bytes.now a.cells.now.base _ a.k l.j l.at l.code (omega arith) (omega arith) l.invariant.gathered;
    }
