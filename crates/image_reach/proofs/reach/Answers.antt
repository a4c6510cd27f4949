-- `image_reach::reach` meets its contract. Assumes nothing.
use mathlib.Core.Path.{◌≡◌}
use native.Mathlib.Omega.{arith}
use Rattle.std.specs.Prelude.{None, Some, Err}
use Rattle.answers.specs.declared.refusal.Refusal.TheVariants.{Body, Header}
use Rattle.answers.specs.Image.{told}
use Rattle.image_find.proofs.SearchSteps.{found-six, page-hit, reach-eight, reach-five}
use Rattle.image_find.proofs.ReachLaws.{reach-zero}
use Rattle.image_reach.proofs.reach.Goals as goal

pub returns-in_err-image : goal.returns-in_err-image
unfolding told
returns-in_err-image c =
    let e : c.from_residual.result ≡ Err Header = grind arith in
    rw e (reach-five _ _ c.in_err-image.ensures.0)

pub returns-then-image-p : goal.returns-then-image-p
unfolding told
returns-then-image-p c = rw (← c.in_ok-image.ensures) (reach-eight c.in_ok-image.image.opened _ c.if-image-p.true)

pub returns-then-p-eq0 : goal.returns-then-p-eq0
unfolding told
returns-then-p-eq0 c = rw (← c.in_ok-image.ensures, c.if-p-eq0.true) (reach-zero _ c.in_ok-image.image.opened.passed)

pub returns-in_err-at : goal.returns-in_err-at
unfolding told
returns-in_err-at c =
    let e : c.from_residual-in_err-at.result ≡ Err Body = grind arith in
    let n : c.find.result ≡ None = grind arith in
    rw (e, ← c.in_ok-image.ensures) (found-six _ _ c.in_ok-image.image.opened _ c.if-image-p.false (rw n at c.find.ensures))

pub reach_in-requires : goal.reach_in-requires
reach_in-requires c =
    let n : c.find.result ≡ Some c.in_ok-at.at = grind arith in
    (c.if-image-p.false, page-hit (rw n at c.find.ensures))

pub returns : goal.returns
returns c = rw (← c.in_ok-image.ensures) c.reach_in.ensures
