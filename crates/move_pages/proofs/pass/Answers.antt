-- `move_pages::pass` meets its contract. Assumes nothing.
use native.Mathlib.Omega.{arith}
use Rattle.move_pages.proofs.PassSteps.{pass-begins, pass-ends, some-page}
use Rattle.move_pages.proofs.pass.Goals as goal

pub loop-p-init : goal.loop-p-init
loop-p-init c z h e = pass-begins h c.args.late e

pub pass_page-requires : goal.pass_page-requires
pass_page-requires c =
    let (z, h, e) = c.requires in
    ((z, h, c.loop-p.invariant z h e), omega arith, omega arith)

pub loop-p-preserved : goal.loop-p-preserved
loop-p-preserved c z h e = c.pass_page.ensures z h (c.loop-p.invariant z h e)

pub returns : goal.returns
returns c z h e = pass-ends h c.args.late (omega (arith, some-page h)) (c.loop-p.invariant z h e)
