-- `image_plan::start` meets its contract: each refusal is one law. Assumes nothing.
use native.Mathlib.Omega.{arith}
use Rattle.image_plan.proofs.PlanLaws.{begun, e-above, e-below, list-long}
use Rattle.image_plan.proofs.start.Goals.{then-e-lt2-via-then-e-lt2, then-e-lt2-via-else-e-lt2+then-e-gt8}
use Rattle.image_plan.proofs.start.Goals as goal

pub returns-then-e-lt2 : goal.returns-then-e-lt2
returns-then-e-lt2 c = λ xs _.
    elim c.then-e-lt2.branch [
      | then-e-lt2-via-then-e-lt2 w ↦ e-below c.args.e xs w.if-e-lt2.true
      | then-e-lt2-via-else-e-lt2+then-e-gt8 w ↦ e-above c.args.e xs w.if-e-gt8.true
    ]

pub returns-then-hours-gt-MAX_HOURS : goal.returns-then-hours-gt-MAX_HOURS
returns-then-hours-gt-MAX_HOURS c =
    λ xs q. list-long c.args.e xs c.if-e-lt2.false c.if-e-gt8.false (omega (arith, q, c.if-hours-gt-MAX_HOURS.true))

pub returns : goal.returns
returns c =
    begun c.args.e _ c.pages_of.result c.if-e-lt2.false c.if-e-gt8.false c.if-hours-gt-MAX_HOURS.false c.pages_of.ensures.0
