-- `image_check::open_accepted` meets its contract. Assumes nothing.
use mathlib.Core.Path.{◌≡◌, sym, ◌∙◌}
use native.Mathlib.Omega.{arith}
use Rattle.std.specs.Prelude.{Err}
use Rattle.answers.specs.declared.refusal.Refusal.TheVariants.{Header}
use Rattle.lists.proofs.Tests.{left}
use Rattle.image.proofs.CheckLaws.{check-5}
use Rattle.image_test.proofs.CheckSteps.{check-6}
use Rattle.image_check.proofs.open_accepted.Goals as goal

pub returns-in_err-image : goal.returns-in_err-image
returns-in_err-image c =
    let e : c.from_residual.result ≡ Err Header = grind arith in
    rw e (check-5 _ c.in_err-image.ensures.0)

pub returns-then-not-passes : goal.returns-then-not-passes
returns-then-not-passes c =
    rw (← c.in_ok-image.ensures) (check-6 c.in_ok-image.image.opened (sym c.passes.ensures ∙ c.if-not-passes.true))

pub invariant_of-result : goal.invariant_of-result
invariant_of-result c =
    record { accepted = left _ _ (sym c.passes.ensures ∙ c.if-not-passes.false); head_of = c.in_ok-image.image.opened.head }
