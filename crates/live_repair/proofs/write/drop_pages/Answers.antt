-- `live_repair::drop_pages` meets its contract. Assumes nothing.
use mathlib.Core.Path.{ap, ◌∙◌}
use native.Mathlib.Omega.{arith}
use lib.ListN.{length, replicate}
use lib.Seq.{length-sets}
use Rattle.store.specs.Layout.{entry_size}
use Rattle.live_repair.proofs.WriteSteps.{dropped-end, dropped-next, filled-sets}
use Rattle.live_repair.proofs.write.drop_pages.Goals as goal

pub loop-p-preserved : goal.loop-p-preserved
loop-p-preserved c =
    let l = c.loop-p in
    let a = c.args in
    let e = c.entry_at-at in
    let at = e.result in
    let f = filled-sets l.s at entry_size (c.fill.ensures.after (λ y h. h)) (omega arith) (omega (arith, c.requires.pages l.p-index)) in (
      ap length f ∙ length-sets l.s at (replicate entry_size 0) ∙ l.invariant.0,
      dropped-next a.s.now l.s _ a.lost.now l.p-index at c.loop-p-test.true e.ensures f l.invariant.1,
    )

pub returns : goal.returns
returns c =
    let l = c.loop-p in
    let a = c.args in
    dropped-end a.s.now l.s a.lost.now l.p-index (omega arith) l.invariant.1
