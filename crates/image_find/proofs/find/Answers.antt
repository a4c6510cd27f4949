-- `image_find::find` meets its contract. Assumes nothing.
use mathlib.Core.Path.{sym, ◌∙◌}
use native.Mathlib.Omega.{arith}
use Rattle.image.proofs.HeadLaws.{bounds}
use Rattle.image_find.proofs.SearchSteps.{narrowable, no-pages, whole}
use Rattle.image_find.proofs.find.Goals as goal

pub returns-then-n-eq0 : goal.returns-then-n-eq0
returns-then-n-eq0 c =
    let o = c.args.image.now.opened in
    no-pages _ c.args.q c.requires.0 (omega (arith, c.requires.1, o.head.total-is)) (sym o.head.pages-are ∙ c.if-n-eq0.true)

pub loop-at-init : goal.loop-at-init
loop-at-init c =
    let o = c.args.image.now.opened in record {
      between = whole _ c.args.q _ _ c.requires.0 c.requires.1 (omega (arith, o.head.total-small)) o.head.pages-are c.if-n-eq0.false;
      turns = omega arith;
    }

pub probe-requires : goal.probe-requires
probe-requires c = narrowable c.args.image.now.opened c.loop-at.invariant.between c.loop-at-test.true

pub overflow_add-turn : goal.overflow_add-turn
overflow_add-turn c =
    let o = c.args.image.now.opened in
    let i = c.loop-at.invariant in
    omega (arith, i.turns, o.head.pages-are, (bounds _ _ o).few)

pub loop-at-preserved : goal.loop-at-preserved
loop-at-preserved c =
    let n = c.in_ok-next.ensures in
    let i = c.loop-at.invariant in
    record { between = n.0; turns = omega (arith, n.1, i.turns) }

pub returns : goal.returns
returns c = record { between = c.loop-at.invariant.between; one = c.loop-at-test.false }
