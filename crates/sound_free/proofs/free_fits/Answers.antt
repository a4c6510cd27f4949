-- `sound_free::free_fits` meets its contract. The loop's invariant: the answer is that of the cells that are left. Assumes nothing.
use mathlib.Core.Path.{refl, sym, ◌∙◌}
use native.Mathlib.Omega.{arith}
use Rattle.sound_free.proofs.Blocks.{marks-same}
use Rattle.sound_free.proofs.FreeTest.{free-broken, free-ends, free-next, free_open, free-set, free-start}
use Rattle.sound_free.proofs.free_fits.Goals as goal

pub loop-init : goal.loop-init
loop-init c =
    let a = c.args.cells.now in
    record { inside = omega arith; left = free-start a.bytes.now a.base a.count c.args.met c.of-head.ensures.free-is }

pub returns-in_default : goal.returns-in_default
returns-in_default c =
    let l = c.loop in
    free-broken _ _ _ _ l.counter l.marks l.at (omega arith) c.in_default.ensures ∙ sym l.invariant.left

pub returns-then-not-is_clear : goal.returns-then-not-is_clear
returns-then-not-is_clear c =
    let k = c.in-Some.ensures in
    let l = c.loop in
    let r = c.at-at in
    free-set _ _ _ l.counter l.marks k.0 (omega arith)
    r.ensures.start r.ensures.inside c.if-not-is_clear.ensures refl
    ∙ sym l.invariant.left

pub loop-preserved : goal.loop-preserved
loop-preserved c =
    let k = c.in-Some.ensures in
    let l = c.loop in
    let r = c.at-at in
    record {
      inside = omega arith;
      left =
          l.invariant.left
          ∙ free-next _ _ _ l.counter l.marks k.0 (omega arith)
          r.ensures.start r.ensures.inside c.if-not-is_clear.ensures refl k.3;
    }

pub returns-then-link-ne0 : goal.returns-then-link-ne0
returns-then-link-ne0 c =
    let l = c.loop in
    free_open _ _ _ l.counter l.marks c.link.ensures (omega arith) c.if-link-ne0.true
    ∙ sym l.invariant.left

pub returns : goal.returns
returns c =
    let l = c.loop in
    marks-same l.marks c.args.cells.now.count c.all_are.ensures (omega arith) (omega arith)
    ∙ sym (l.invariant.left ∙ free-ends _ _ _ l.counter l.marks c.link.ensures (omega arith) c.if-link-ne0.false)
