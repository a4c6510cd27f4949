-- `image_plan::finish` meets its contract. Assumes nothing.
use mathlib.Core.Path.{◌≡◌, ap, ◌∙◌}
use native.Mathlib.Omega.{arith}
use Rattle.image.specs.Image.{header_length, wide}
use Rattle.image_plan.proofs.PlanLaws.{finished, sizes, too_much, width_low}
use Rattle.image_plan.proofs.finish.Goals as goal

pub returns-then-plan-gt-MAX_TOTAL : goal.returns-then-plan-gt-MAX_TOTAL
returns-then-plan-gt-MAX_TOTAL c = λ a. too_much a.drafted a.all c.if-plan-gt-MAX_TOTAL.true

pub table_at-code-requires : goal.table_at-code-requires
table_at-code-requires c = (c.header_size-table.ensures.1, omega (arith, (sizes c.requires.drafted).few))

pub overflow_mul-code : goal.overflow_mul-code
overflow_mul-code c = omega (arith, (sizes c.requires.drafted).few, c.header_size-table.ensures, c.table_at-code.ensures)

pub overflow_mul-bits : goal.overflow_mul-bits
overflow_mul-bits c =
    let a = c.requires in
    omega (arith, width_low a.drafted a.all c.digits_of.result c.digits_of.ensures)

pub overflow_add-bits : goal.overflow_add-bits
overflow_add-bits c =
    omega (arith, width_low c.requires.drafted c.requires.all c.digits_of.result c.digits_of.ensures, (sizes c.requires.drafted).trees-most)

pub returns : goal.returns
returns c =
    let w : c.header_size-table.result ≡ header_length (wide c.args.plan.total) = c.header_size-table.ensures.0 ∙ ap header_length c.for_total.ensures in
    λ a. rw c.table_at-code.ensures
    (finished a.drafted a.all c.digits_of.result c.header_size-table.result c.digits_of.ensures w c.if-plan-gt-MAX_TOTAL.false)
