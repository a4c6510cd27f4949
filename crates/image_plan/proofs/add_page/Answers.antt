-- `image_plan::add_page` meets its contract. Assumes nothing.
use mathlib.Core.Path.{refl}
use native.Mathlib.Omega.{arith}
use Rattle.image_plan.proofs.PlanLaws.{added, reserve-low, sizes}
use Rattle.image_plan.proofs.add_page.Goals as goal

pub overflow_add-result-2 : goal.overflow_add-result-2
overflow_add-result-2 c =
    let a = c.requires in
    omega (arith, sizes a.drafted, a.sum_is.small)

pub overflow_add-result-3 : goal.overflow_add-result-3
overflow_add-result-3 c =
    let a = c.requires in
    omega (arith, sizes a.drafted, reserve-low a.drafted a.sum_is.small c.reserve_of.ensures)

pub returns : goal.returns
returns c =
    (refl, λ a. added c.reserve_of.result a.drafted a.more a.sum_is c.reserve_of.ensures)
